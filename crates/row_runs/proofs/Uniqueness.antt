-- Two lists of runs that give the same rows are one, and as many rows that have the same runs are the same.
use Rattle.std.proofs.Common.{◌≡◌, ℕ, suc, ◌<◌, ◌≤◌, List, [], ◌∷◌, refl, sym, ap₂, ◌∙◌, arith, inl, inr, Option, Some, None, subst}
use Rattle.std.proofs.lemmas.Bool.{cases_lt}
use Rattle.game_core.specs.declared.game.Row.{Row}
use Rattle.row_runs.specs.declared.run.Run.{Run}
use Rattle.row_runs.specs.declared.run.TableVersion.{TableVersion}
use Rattle.row_runs.specs.declared.run.TableVersion.TheVariants.{First, Second}
use Rattle.row_runs.specs.Runs.{HasCells, AreRuns, Gives, runs_from, EncodeRows}
use Rattle.row_runs.specs.Laws.{OneListOfRuns, RunsDiffer}
use Rattle.row_runs.proofs.Encoding.{gives_above, begin_later, forward, runs_encode}
use Rattle.std.proofs.lemmas.List.{get_or_default, same_lists}
use Rattle.std.proofs.lemmas.Option.{none-some}
use Rattle.game_core.specs.Solution.{row_of}

-- one list gives what the other gives
abbrev GiveAs : List Run → List Run → Type 0
GiveAs runs others = (c : ℕ) (row : Row) → Gives runs c row → Gives others c row

first_given : (v : TableVersion) (r : Run) (runs : List Run) → HasCells v r → Gives (r ∷ runs) r.first r.row
first_given v r runs cells = inl (omega arith, forward v r cells, refl)

begins : (v : TableVersion) (r s : Run) (runs others : List Run) → AreRuns v (r ∷ runs) → AreRuns v (s ∷ others) → GiveAs (r ∷ runs) (s ∷ others) → s.first ≤ r.first
begins v r s runs others are also alike = gives_above v s.first (s ∷ others) r.first r.row also (omega arith) (alike r.first r.row (first_given v r runs are.0))

same_row_first : (v : TableVersion) (r s : Run) (runs others : List Run) → AreRuns v (r ∷ runs) → AreRuns v (s ∷ others) → GiveAs (r ∷ runs) (s ∷ others) → r.first ≡ s.first → s.row ≡ r.row
same_row_first v r s runs others are also alike same = elim (alike r.first r.row (first_given v r runs are.0)) [
  | inl here ↦ here.2
  | inr rest ↦ absurd (
      let above = gives_above v (suc s.last) others r.first r.row also.2 (begin_later v s others also.1) rest in
      let some = forward v s also.0 in
      omega (arith, above, some, same))
]

-- a run doesn't go on with the one after it
goes_no_further : (r : Run) (runs : List Run) (row : Row) → AreRuns Second (r ∷ runs) → r.row ≡ row → Gives runs (suc r.last) row → ⊥
goes_no_further r [] row are same given = given
goes_no_further r (t ∷ runs) row are same given = elim given [
  | inl here ↦
      let low = here.0 in
      let past = are.1.0 in
      let next : suc r.last ≡ t.first = omega (arith, low, past) in
      are.1.1 next (same ∙ sym here.2)
  | inr rest ↦
      let above = gives_above Second (suc t.last) runs (suc r.last) row are.2.2 (begin_later Second t runs are.2.1) rest in
      let some = are.2.0 in
      let past = are.1.0 in
      omega (arith, above, some, past)
]

ends : (v : TableVersion) (r s : Run) (runs others : List Run) → AreRuns v (r ∷ runs) → AreRuns v (s ∷ others) → GiveAs (s ∷ others) (r ∷ runs) → r.first ≡ s.first → r.row ≡ s.row → s.last ≤ r.last
ends First r s runs others are also alike same row = let one = are.0 in let two = also.0 in omega (arith, one, two, same)
ends Second r s runs others are also alike same row =
    elim (cases_lt r.last s.last) [
      | inl before ↦ absurd (past before (alike (suc r.last) s.row (inl ((let some = are.0 in omega (arith, some, same)), omega (arith, before), refl))))
      | inr below ↦ below
    ]
  where
    past : r.last < s.last → Gives (r ∷ runs) (suc r.last) s.row → ⊥
    past before given = elim given [
      | inl here ↦ let high = here.1 in omega (arith, high)
      | inr rest ↦ goes_no_further r runs s.row are row rest
    ]

rest_gives : (v : TableVersion) (r s : Run) (runs others : List Run) → AreRuns v (r ∷ runs) → GiveAs (r ∷ runs) (s ∷ others) → r.last ≡ s.last → GiveAs runs others
rest_gives v r s runs others are alike same c row given = elim (alike c row (inr given)) [
  | inl here ↦ absurd (
      let above = gives_above v (suc r.last) runs c row are.2 (begin_later v r runs are.1) given in
      let high = here.1 in
      omega (arith, above, high, same))
  | inr rest ↦ rest
]

pub same_runs : (v : TableVersion) (runs others : List Run) → AreRuns v runs → AreRuns v others → GiveAs runs others → GiveAs others runs → runs ≡ others
same_runs v [] [] are also alike back = refl
same_runs v [] (s ∷ others) are also alike back = absurd (back s.first s.row (first_given v s others also.0))
same_runs v (r ∷ runs) [] are also alike back = absurd (alike r.first r.row (first_given v r runs are.0))
same_runs v (r ∷ runs) (s ∷ others) are also alike back =
    let low = begins v r s runs others are also alike in
    let high = begins v s r others runs also are back in
    let first : r.first ≡ s.first = omega (arith, low, high) in
    let row : r.row ≡ s.row = sym (same_row_first v r s runs others are also alike first) in
    let short = ends v r s runs others are also back first row in
    let long = ends v s r others runs also are alike (sym first) (sym row) in
    let last : r.last ≡ s.last = omega (arith, short, long) in
    let head : r ≡ s = (λ i. record { first = first i; last = last i; row = row i }) in
    let tail : runs ≡ others = same_runs v runs others are.2 also.2 (rest_gives v r s runs others are alike last) (rest_gives v s r others runs also back (sym last)) in
    ap₂ (λ (x : Run) (xs : List Run). x ∷ xs) head tail

pub one_list : OneListOfRuns
one_list v rows runs others are also encode told =
    same_runs v runs others are also
    (λ c row given. (told c row).0 ((encode c row).1 given))
    (λ c row given. (encode c row).0 ((told c row).1 given))

same_option : (a b : Option Row) → ((row : Row) → a ≡ Some row → b ≡ Some row) → ((row : Row) → b ≡ Some row → a ≡ Some row) → a ≡ b
same_option None None f g = refl
same_option None (Some row) f g = absurd (none-some row (g row refl))
same_option (Some row) b f g = sym (f row refl)

pub differ : RunsDiffer
differ v rows others len e =
    let told = (runs_encode v rows).1 in
    let also : EncodeRows (runs_from v 0 rows) others = subst (λ (runs : List Run). EncodeRows runs others) (sym e) (runs_encode v others).1 in
    let same : (c : ℕ) → row_of rows c ≡ row_of others c = λ c. same_option (row_of rows c) (row_of others c) (λ row is. (also c row).1 ((told c row).0 is)) (λ row is. (told c row).1 ((also c row).0 is)) in
    same_lists rows others len (λ c d lt. get_or_default rows c d None lt ∙ same c ∙ sym (get_or_default others c d None (omega (arith, lt, len))))
