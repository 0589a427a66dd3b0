-- One run more after those that are read, and the rows of its cells.
use Rattle.std.proofs.Common.{◌≡◌, ◌⊎◌, ℕ, ◌<◌, ◌≤◌, List, [], ◌∷◌, ◌++◌, Some, refl, sym, ap, ◌∙◌, arith, inl, inr}
use Rattle.std.proofs.lemmas.Bool.{cases_lt}
use Rattle.game_core.specs.declared.game.Row.{Row}
use Rattle.row_runs.specs.declared.run.Run.{Run}
use Rattle.game_core.specs.Solution.{row_of}
use Rattle.row_runs.specs.declared.run.TableVersion.{TableVersion}
use Rattle.row_runs.specs.Runs.{HasCells, AreRuns, Gives}
use Rattle.row_runs.specs.inside.AddedRuns.{MayEnd, OneRunMore}
use Rattle.row_runs.proofs.Encoding.{forward, later}
use Rattle.std.proofs.lemmas.Option.{same_Some}

pub are_more : (v : TableVersion) (runs : List Run) (r : Run) → AreRuns v runs → HasCells v r → MayEnd v runs r → AreRuns v (runs ++ r ∷ [])
are_more v [] r are cells end = (cells, tt, tt)
are_more v (x ∷ []) r are cells end = (are.0, end, (cells, tt, tt))
are_more v (x ∷ y ∷ runs) r are cells end = (are.0, are.1, are_more v (y ∷ runs) r are.2 cells end)

-- all cells of the runs lie before the next one
pub gives_below : (v : TableVersion) (runs : List Run) (r : Run) (c : ℕ) (row : Row) → AreRuns v runs → MayEnd v runs r → Gives runs c row → c < r.first
gives_below v [] r c row are end given = absurd given
gives_below v (x ∷ []) r c row are end given = elim given [
  | inl here ↦ let high = here.1 in let past = later v x r end in omega (arith, high, past)
  | inr rest ↦ absurd rest
]
gives_below v (x ∷ y ∷ runs) r c row are end given = elim given [
  | inl here ↦
      let high = here.1 in
      let past = later v x y are.1 in
      let next = gives_below v (y ∷ runs) r y.first y.row are.2 end (inl (omega arith, forward v y are.2.0, refl)) in
      omega (arith, high, past, next)
  | inr rest ↦ gives_below v (y ∷ runs) r c row are.2 end rest
]

gives_more : (runs : List Run) (r : Run) (c : ℕ) (row : Row) → Gives runs c row → Gives (runs ++ r ∷ []) c row
gives_more [] r c row given = absurd given
gives_more (x ∷ runs) r c row given = elim given [
  | inl here ↦ inl here
  | inr rest ↦ inr (gives_more runs r c row rest)
]

gives_last : (runs : List Run) (r : Run) (c : ℕ) (row : Row) → r.first ≤ c → c ≤ r.last → r.row ≡ row → Gives (runs ++ r ∷ []) c row
gives_last [] r c row low high is = inl (low, high, is)
gives_last (x ∷ runs) r c row low high is = inr (gives_last runs r c row low high is)

gives_either : (runs : List Run) (r : Run) (c : ℕ) (row : Row) → Gives (runs ++ r ∷ []) c row → Gives runs c row ⊎ ((r.first ≤ c) × (c ≤ r.last) × (r.row ≡ row))
gives_either [] r c row given = elim given [
  | inl here ↦ inr here
  | inr rest ↦ absurd rest
]
gives_either (x ∷ runs) r c row given = elim given [
  | inl here ↦ inl (inl here)
  | inr rest ↦ elim (gives_either runs r c row rest) [
    | inl before ↦ inl (inr before)
    | inr here ↦ inr here
  ]
]

pub one_more : OneRunMore
one_more v runs r rows after are cells end encode filled = (are_more v runs r are cells end, λ c row. (to c row, back c row))
  where
    to : (c : ℕ) (row : Row) → row_of after c ≡ Some row → Gives (runs ++ r ∷ []) c row
    to c row is = elim (cases_lt c r.first) [
      | inl early ↦ gives_more runs r c row ((encode c row).0 (sym (filled.elsewhere c (inl early)) ∙ is))
      | inr late ↦ elim (cases_lt r.last c) [
        | inl past ↦ gives_more runs r c row ((encode c row).0 (sym (filled.elsewhere c (inr past)) ∙ is))
        | inr here ↦ gives_last runs r c row late here (same_Some r.row row (sym (filled.within c late here) ∙ is))
      ]
    ]

    back : (c : ℕ) (row : Row) → Gives (runs ++ r ∷ []) c row → row_of after c ≡ Some row
    back c row given = elim (gives_either runs r c row given) [
      | inl before ↦ filled.elsewhere c (inl (gives_below v runs r c row are end before)) ∙ (encode c row).1 before
      | inr here ↦ filled.within c here.0 here.1 ∙ ap (λ (x : Row). Some x) here.2
    ]
