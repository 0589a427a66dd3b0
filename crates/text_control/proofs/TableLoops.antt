-- Loops of the answers of tables that drive or keep their plants.
use Rattle.std.proofs.Common.{inl, inr, ◌≡◌, ◌⊎◌, ℕ, zero, suc, ◌<◌, List, [], ◌∷◌, Option, Some, option_and_then, length, replicate, refl, sym, ap, subst, ◌∙◌, arith}
use Rattle.std.specs.Prelude.{ℤ}
use Rattle.std.specs.Int.Signed.{≤ℤ_refl}
use Rattle.std.specs.List.{All, AllByRecursion}
use Rattle.std.proofs.Math.ListN.{length-replicate}
use Rattle.std.proofs.lemmas.List.Elements.{All-head, All-tail, All-from_recursion}
use Rattle.plant_record.specs.declared.variables.NoiseVariable.{NoiseVariable}
use Rattle.plant_record.specs.Description.{Description, vector_of}
use Rattle.plant_record.specs.Variables.{IsNoiseVariable}
use Rattle.plant_record.specs.States.{LiesInSome, IsClear}
use Rattle.plant_record.specs.Steps.{step_of, IsNoise}
use Rattle.row_runs.specs.declared.run.TableVersion.{TableVersion}
use Rattle.controller_table.specs.Choice.{applied, IsChoice, HasRank}
use Rattle.controller_table.specs.Tables.{IsTable}
use Rattle.controller_table.specs.KindTexts.{IsTextOf}
use Rattle.controller_table.specs.TextKinds.{turn_rules}
use Rattle.controller_table.specs.TextRows.{HasTextRow}
use Rattle.controller_table.proofs.HeadedLaws.{one_text}
use Rattle.controller_table.proofs.Applied.{chosen_row}
use Rattle.controller_table.proofs.OneTable.{one_choice}
use Rattle.controller_table.proofs.TableTexts.{only_turn}
use Rattle.game_core.specs.declared.game.Row.{Row}
use Rattle.turn_rows.specs.Rows.{rows_for}
use Rattle.plant_refine.specs.Drives.{Comes}
use Rattle.plant_refine.specs.Stays.{HasSomeRow, Stays}
use Rattle.controller_table.specs.declared.text_kind.TextKind.{TextKind}
use Rattle.controller_table.specs.declared.text_kind.TextKind.TheVariants.{Table}
use Rattle.text_control.specs.Texts.{TextModel, due_rows, Tells}
use Rattle.text_control.specs.Control.{applied_as, AreTextValues, IsRank}
use Rattle.text_control.specs.Loops.{LoopSample, moved_by, Answers, AlwaysAnswers, IsLoop}
use Rattle.text_control.specs.Laws.{ReachLoopsArrive, KeepLoopsGoOn}
use Rattle.text_control.proofs.OneText.{first_due}
use Rattle.text_control.proofs.Answering.{chosen, always_answers, moves}

-- ---- noises for samples that aren't there

low_noise : List NoiseVariable → List ℤ
low_noise [] = []
low_noise (v ∷ noises) = v.low ∷ low_noise noises

low_is_noise : (noises : List NoiseVariable) → All IsNoiseVariable noises → IsNoise noises (low_noise noises)
unfolding low_noise
low_is_noise [] each = tt
low_is_noise (v ∷ noises) each =
    let one = All-head IsNoiseVariable v noises each in
    (≤ℤ_refl v.low, one.ordered, low_is_noise noises (All-tail IsNoiseVariable v noises each))

each_is_noise : (noises : List NoiseVariable) (n : ℕ) → All IsNoiseVariable noises → AllByRecursion (IsNoise noises) (replicate n (low_noise noises))
each_is_noise noises zero each = tt
each_is_noise noises (suc n) each = (low_is_noise noises each, each_is_noise noises n each)

module _ (bytes : List ℕ) (t : TextModel) (version : TableVersion) (tells : Tells bytes t) (kind : t.kind ≡ Table version) (first : t.turn ≡ 0) where
  abbrev p : Description
  p = t.plant

  table : IsTable bytes p (due_rows t)
  table =
      let text : IsTextOf (Table version) bytes p t.turns = subst (λ (k : TextKind). IsTextOf k bytes p t.turns) kind tells in
      let only = only_turn (turn_rules (Table version) p) t.turns refl text.within in
      let due : only.0 ≡ due_rows t = ap (λ (rows : List (List (Option Row))). rows_for rows 0) (sym only.1) ∙ ap (rows_for t.turns) (sym first) in
      subst (IsTable bytes p) due (version, subst (IsTextOf (Table version) bytes p) only.1 text)

  noises : All IsNoiseVariable p.noises
  noises = table.1.limits.plant.noises

  rank_told : (x : List ℤ) (k : ℕ) → IsRank t x k → HasRank bytes x k
  rank_told x k rank = record { plant = p; rows = due_rows t; table = table; row = rank.0.row; has = rank.0.has; ranked = sym rank.0.is }

  -- what is answered is what the table chooses
  choice : (x values : List ℤ) → Answers t x values → (u : ℕ) × IsChoice bytes x u × (values ≡ vector_of p.inputs u)
  choice x values answers =
      let c = chosen t x values answers in
      let applies = subst (λ (kd : TextKind). applied_as kd p.goal c.row ≡ Some c.input) kind c.applies in
      (c.input, record { plant = p; rows = due_rows t; table = table; chosen = ap (option_and_then (applied p.goal)) c.has ∙ applies }, c.are)

  chooses : (x : List ℤ) (u : ℕ) → IsChoice bytes x u → AlwaysAnswers t x
  chooses x u c =
      let same = (one_text (Table c.table.0) t.kind bytes c.plant p (c.rows ∷ []) t.turns c.table.1 tells).0 in
      let by = chosen_row c.plant c.rows x u c.chosen in
      let has : HasTextRow (Table c.table.0) bytes 0 x by.0 = record { plant = c.plant; turns = c.rows ∷ []; text = c.table.1; has = by.1 } in
      always_answers t x bytes tells (vector_of c.plant.inputs u)
      (subst (λ (due : TextKind × ℕ). AreTextValues due.0 due.1 bytes x (vector_of c.plant.inputs u)) (λ i. (same i, sym first i)) (by.0, has, u, by.2, refl))

  -- the plant makes a step under the input that a choice names
  moves_on : (s : LoopSample) (x : List ℤ) (u : ℕ) → s.state ≡ x → Answers t x s.values → IsChoice bytes x u → step_of p x u s.noise ≡ moved_by p s
  moves_on s x u at answers is =
      let c = choice x s.values answers in
      let same : u ≡ c.0 = one_choice bytes x u c.0 is c.1 in
      ap (λ (n : ℕ). step_of p x n s.noise) same ∙ ap (λ (z : List ℤ). step_of p z c.0 s.noise) (sym at) ∙ sym (moves p s c.0 c.2)

  -- ---- tables that drive

  -- under every so many noises the table brings the plant into a target
  abbrev ComesIn : ℕ → List ℤ → Type 0
  ComesIn n x = (ws : List (List ℤ)) → length ws ≡ n → AllByRecursion (IsNoise p.noises) ws → Comes p bytes x ws

  abbrev LiesThere : List ℤ → Type 0
  LiesThere x = LiesInSome p p.targets x

  at_end : (y : List ℤ) (n : ℕ) → ComesIn n y → IsClear p y × (LiesThere y ⊎ ((0 < n) × AlwaysAnswers t y))
  at_end y zero comes =
      let c = comes [] refl tt in
      (c.0, inl c.1)
  at_end y (suc n) comes =
      let c = comes (replicate (suc n) (low_noise p.noises)) (length-replicate (suc n) (low_noise p.noises)) (each_is_noise p.noises (suc n) noises) in (
        c.0,
        elim c.1 [
          | inl there ↦ inl there
          | inr on ↦ inr (omega arith, chooses y on.0 on.1)
        ],
      )

  next : (s : LoopSample) (x : List ℤ) (n : ℕ) → s.state ≡ x → Answers t x s.values → IsNoise p.noises s.noise → (LiesThere x → ⊥) → ComesIn (suc n) x → ComesIn n (moved_by p s)
  next s x n at answers noise out comes ws many each =
      let c = comes (s.noise ∷ ws) (ap suc many) (noise, each) in
      elim c.1 [
        | inl there ↦ absurd (out there)
        | inr on ↦ subst (λ (z : List ℤ). Comes p bytes z ws) (moves_on s x on.0 at answers on.1) on.2
      ]

  driven : (samples : List LoopSample) (x y : List ℤ) (n : ℕ) → ComesIn n x → IsLoop t x samples y → All (λ (s : LoopSample). LiesThere s.state → ⊥) samples
      → IsClear p y × (LiesThere y ⊎ ((length samples < n) × AlwaysAnswers t y))
  driven [] x y n comes loop out = at_end y n (subst (ComesIn n) (sym loop) comes)
  driven (s ∷ samples) x y zero comes loop out =
      let here : LiesThere x = (comes [] refl tt).1 in
      absurd (All-head (λ (a : LoopSample). LiesThere a.state → ⊥) s samples out (subst LiesThere (sym loop.0) here))
  driven (s ∷ samples) x y (suc n) comes loop out =
      let not_here : LiesThere x → ⊥ = λ there. All-head (λ (a : LoopSample). LiesThere a.state → ⊥) s samples out (subst LiesThere (sym loop.0) there) in
      let rest = driven samples (moved_by p s) y n (next s x n loop.0 loop.1 loop.2 not_here comes) loop.3 (All-tail (λ (a : LoopSample). LiesThere a.state → ⊥) s samples out) in (
        rest.0,
        elim rest.1 [
          | inl there ↦ inl there
          | inr on ↦ inr (omega (arith, on.0), on.1)
        ],
      )

  -- ---- tables that keep

  kept : Stays p bytes → (samples : List LoopSample) (x y : List ℤ) → HasSomeRow bytes x → IsLoop t x samples y → IsClear p y × AlwaysAnswers t y
  kept stays [] x y row loop =
      let r = stays x (low_noise p.noises ∷ []) row (All-from_recursion (IsNoise p.noises) (low_noise p.noises ∷ []) (low_is_noise p.noises noises, tt)) in
      subst (λ (z : List ℤ). IsClear p z × AlwaysAnswers t z) (sym loop) (r.0, chooses x r.2.0 r.2.1)
  kept stays (s ∷ samples) x y row loop =
      let r = stays x (s.noise ∷ []) row (All-from_recursion (IsNoise p.noises) (s.noise ∷ []) (loop.2, tt)) in
      let there : HasSomeRow bytes (moved_by p s) = subst (HasSomeRow bytes) (moves_on s x r.2.0 loop.0 loop.1 r.2.1) r.2.2.1 in
      kept stays samples (moved_by p s) y there loop.3

pub reach_loops_arrive : ReachLoopsArrive
reach_loops_arrive bytes t version tells kind drives x y k samples rank loop out =
    let first = first_due bytes t tells x (Table version) kind refl rank.0.row rank.0.has in
    driven bytes t version tells kind first samples x y k (λ ws many each. drives x k ws (rank_told bytes t version tells kind first x k rank) many (All-from_recursion (IsNoise t.plant.noises) ws each)) loop out

pub keep_loops_go_on : KeepLoopsGoOn
keep_loops_go_on bytes t version tells kind stays x y k samples rank loop =
    let first = first_due bytes t tells x (Table version) kind refl rank.0.row rank.0.has in
    kept bytes t version tells kind first stays samples x y (k, rank_told bytes t version tells kind first x k rank) loop
