-- Texts with a first line, a plant and rows: one text, one reason to be refused, never both, and no text is neither.
use Rattle.std.proofs.Common.{inl, inr, ◌≡◌, ◌⊎◌, ℕ, suc, ◌+◌, ◌≤◌, List, ◌++◌, length, length-append, take, drop, Option, refl, sym, ap, subst, ◌∙◌, append_assoc, arith}
use Rattle.std.specs.List.{concat}
use Rattle.std.proofs.lemmas.Bool.{cases_lt}
use Rattle.std.proofs.Math.Seq.{take-append_seam}
use Rattle.game_core.specs.declared.game.Row.{Row}
use Rattle.plant_record.specs.declared.limit_kind.LimitKind.TheVariants.{PlantText, TableText, Vectors, Cells, Pairs, Edges}
use Rattle.plant_record.specs.Description.{Description}
use Rattle.plant_record.specs.Limits.{IsWithinLimits}
use Rattle.plant_writing.specs.CanonicalText.{text_of}
use Rattle.plant_text.specs.declared.plant_fault.PlantFault.{PlantFault}
use Rattle.plant_text.specs.declared.plant_fault.PlantFault.TheVariants as front
use Rattle.plant_text.specs.CanonicalFronts.{IsFront, IsFrontRefusedFor}
use Rattle.plant_text.proofs.lemmas.CanonicalFronts as fronts
use Rattle.plant_text.proofs.lemmas.PlantEnds.{no_front_is_neither}
use Rattle.text_pieces.proofs.Laws.{one_by_length}
use Rattle.text_pieces.proofs.Undeniable.{either}
use Rattle.row_reading.specs.Counting.{line_count}
use Rattle.row_reading.specs.RowsTexts.{turn_lines, AreTurnsText}
use Rattle.row_reading.specs.TurnSteps.{AreTurnsRefusedAt}
use Rattle.row_reading.proofs.Laws.{one_turns, one_turns_refused, turns_or_refused}
use Rattle.row_reading.proofs.SomeTurns.{no_turns_are_neither}
use Rattle.controller_table.specs.declared.text_kind.TextKind.{TextKind}
use Rattle.controller_table.specs.declared.text_kind.TextKind.TheVariants.{Table, Stay, Patrol}
use Rattle.controller_table.specs.declared.text_fault.TextFault.{TextFault}
use Rattle.controller_table.specs.declared.text_fault.TextFault.TheVariants as faults
use Rattle.controller_table.specs.TextKinds.{first_line, turn_rules, HasFewTurnsFor, most_bytes}
use Rattle.controller_table.specs.KindTexts.{IsTextOf}
use Rattle.controller_table.specs.HeadedTexts.{Kinds, AnyTable, Only, Accept, most_bytes_of, BeginsAs, HasNoFirstLine, IsPlantRefusedFor, HasManyTurns, AreRowsRefusedAt, IsFirstRefusedLine, AreLinesRefusedFor, IsTextRefusedFor}
use Rattle.controller_table.specs.inside.TextReading.{fault_of_front}
use Rattle.controller_table.specs.Laws.{OneText, NoTextIsRefused}
use Rattle.controller_table.proofs.EachKind.{one_kind, small_turns, few_or_many}
use Rattle.controller_table.proofs.TextsRead.{many_turns, text_told, rows_refused, plant_refused, refused_among}
use Rattle.controller_table.proofs.ShortTexts.{texts_are_short}

-- a plant's text stands at the front
front_at : (p : Description) (rest after : List ℕ) → IsWithinLimits p → rest ≡ text_of p ++ after → IsFront rest p (length (text_of p))
front_at p rest after within at = record {
  plant = within.plant;
  within = omega (arith, ap length at, length-append (text_of p) after);
  text = ap (take (length (text_of p))) at ∙ take-append_seam (text_of p) after;
}

-- ---- one text

-- the lines after the plant of a text
abbrev pub after_plant : TextKind → Description → List (List (Option Row)) → List ℕ
after_plant kind p turns = concat (turn_lines (turn_rules kind p) turns)

pub one_text : OneText
one_text k l bytes p q turns others h m =
    let kind = one_kind k l (text_of p ++ after_plant k p turns) (text_of q ++ after_plant l q others)
    (sym (append_assoc (first_line k) (text_of p) (after_plant k p turns)) ∙ sym h.text ∙ m.text ∙ append_assoc (first_line l) (text_of q) (after_plant l q others)) in
    let plant = fronts.one_plant_at_the_front p q (after_plant k p turns) (after_plant l q others) h.limits.plant m.limits.plant kind.1 in
    let other : IsTextOf k bytes p others = subst (λ (x : TextKind × Description). IsTextOf x.0 bytes x.1 others) (λ i. (sym kind.0 i, sym plant.0 i)) m in
    let rows : after_plant k p turns ≡ after_plant k p others = plant.1 ∙ ap (λ (x : TextKind × Description). after_plant x.0 x.1 others) (λ i. (sym kind.0 i, sym plant.0 i)) in
    (kind.0, plant.0, one_turns (turn_rules k p) (small_turns k p h.limits) (after_plant k p turns) turns others (record { within = h.within; text = refl }) (record { within = other.within; text = rows }))

module _ (kinds : Kinds) where
  -- ---- one reason

  -- why a text is refused that isn't too long
  data Reason (bytes : List ℕ) (f : TextFault) : Type 0 where
    has_no_first_line : f ≡ faults.Malformed 1 → HasNoFirstLine kinds bytes → Reason bytes f
    has_no_plant : (g : PlantFault) → f ≡ fault_of_front g → IsPlantRefusedFor kinds bytes g → Reason bytes f
    has_many_turns : f ≡ faults.Turns → HasManyTurns kinds bytes → Reason bytes f
    has_refused_row : (n : ℕ) → f ≡ faults.Malformed n → AreRowsRefusedAt kinds bytes n → Reason bytes f

  of_line : (bytes : List ℕ) (n : ℕ) → IsFirstRefusedLine kinds bytes n → Reason bytes (faults.Malformed n)
  of_line bytes n (inl bare) = has_no_first_line (ap faults.Malformed bare.0) bare.1
  of_line bytes n (inr (inl plant)) = has_no_plant (front.Malformed plant.0) (ap faults.Malformed plant.1) plant.2
  of_line bytes n (inr (inr rows)) = has_refused_row n refl rows

  by_length : (bytes : List ℕ) (f : TextFault) → IsTextRefusedFor kinds bytes f → ((f ≡ faults.Limit TableText) × (length bytes ≤ most_bytes_of kinds → ⊥)) ⊎ ((length bytes ≤ most_bytes_of kinds) × Reason bytes f)
  by_length bytes (faults.Malformed n) h = inr (h.0, of_line bytes n h.1)
  by_length bytes (faults.Limit PlantText) h = inr (h.0, has_no_plant (front.Limit PlantText) refl h.1)
  by_length bytes (faults.Limit TableText) h = inl (refl, h)
  by_length bytes (faults.Limit Vectors) h = inr (h.0, has_no_plant (front.Limit Vectors) refl h.1)
  by_length bytes (faults.Limit Cells) h = inr (h.0, has_no_plant (front.Limit Cells) refl h.1)
  by_length bytes (faults.Limit Pairs) h = inr (h.0, has_no_plant (front.Limit Pairs) refl h.1)
  by_length bytes (faults.Limit Edges) h = inr (h.0, has_no_plant (front.Limit Edges) refl h.1)
  by_length bytes faults.Turns h = inr (h.0, has_many_turns refl h.1)
  by_length bytes faults.Memory h = absurd h.1

  -- what stands after the first line
  after_first : (k l : TextKind) (bytes rest text : List ℕ) (p : Description) → bytes ≡ first_line k ++ rest → bytes ≡ first_line l ++ text_of p ++ text → rest ≡ text_of p ++ text
  after_first k l bytes rest text p are is = (one_kind k l rest (text_of p ++ text) (sym are ∙ is ∙ append_assoc (first_line l) (text_of p) text)).1

  one_plant_refusal : (bytes : List ℕ) (f g : PlantFault) → IsPlantRefusedFor kinds bytes f → IsPlantRefusedFor kinds bytes g → f ≡ g
  one_plant_refusal bytes f g h k =
      let rest : h.rest ≡ k.rest = (one_kind h.kind k.kind h.rest k.rest (sym h.are ∙ k.are)).1 in
      fronts.one_front_refusal k.rest f g (subst (λ (x : List ℕ). IsFrontRefusedFor x f) rest h.refused) k.refused

  no_plant_stands : (bytes : List ℕ) (l : TextKind) (p : Description) (rest : List ℕ) → Accept kinds l → bytes ≡ first_line l ++ text_of p ++ rest → HasNoFirstLine kinds bytes → ⊥
  no_plant_stands bytes l p rest accepted are bare = bare l accepted (text_of p ++ rest, are ∙ append_assoc (first_line l) (text_of p) rest)

  -- ---- where a plant stands

  module _ (bytes : List ℕ) (l : TextKind) (p : Description) (rest : List ℕ) (limits : IsWithinLimits p) (are : bytes ≡ first_line l ++ text_of p ++ rest) where
    -- it isn't refused
    plant_or_refused : (f : PlantFault) → IsPlantRefusedFor kinds bytes f → ⊥
    plant_or_refused f h = fronts.no_front_is_refused h.rest p (length (text_of p)) f (front_at p h.rest rest limits (after_first h.kind l bytes h.rest rest p h.are are)) limits h.refused

    -- another one that stands there is this, after the same first line
    same : (k : TextKind) (q : Description) (other : List ℕ) → IsWithinLimits q → bytes ≡ first_line k ++ text_of q ++ other → (k ≡ l) × (q ≡ p) × (other ≡ rest)
    same k q other within is =
        let after = one_kind k l (text_of q ++ other) (text_of p ++ rest) (sym (is ∙ append_assoc (first_line k) (text_of q) other) ∙ are ∙ append_assoc (first_line l) (text_of p) rest) in
        let plant = fronts.one_plant_at_the_front q p other rest within.plant limits.plant after.1 in
        (after.0, plant.0, plant.1)

    -- many turns are many of it
    many_moved : (h : HasManyTurns kinds bytes) → HasFewTurnsFor l p → ⊥
    many_moved h few =
        let at = same h.kind h.plant h.rest h.limits h.are in
        h.many (subst (λ (x : TextKind × Description). HasFewTurnsFor x.0 x.1) (λ i. (sym at.0 i, sym at.1 i)) few)

    -- rows that are refused are refused after it
    rows_moved : (n : ℕ) → (h : AreRowsRefusedAt kinds bytes n) → HasFewTurnsFor l p × AreTurnsRefusedAt (turn_rules l p) rest h.line × (n ≡ line_count (first_line l ++ text_of p) + h.line)
    rows_moved n h =
        let at = same h.kind h.plant h.rest h.limits h.are in (
          subst (λ (x : TextKind × Description). HasFewTurnsFor x.0 x.1) (λ i. (at.0 i, at.1 i)) h.few,
          subst (λ (x : TextKind × Description × List ℕ). AreTurnsRefusedAt (turn_rules x.0 x.1) x.2 h.line) (λ i. (at.0 i, at.1 i, at.2 i)) h.refused,
          h.number ∙ ap (λ (x : TextKind × Description). line_count (first_line x.0 ++ text_of x.1) + h.line) (λ i. (at.0 i, at.1 i)),
        )

    -- nothing refuses a text with few enough turns and no line that is refused
    no_reason : Accept kinds l → HasFewTurnsFor l p → ((n : ℕ) → AreTurnsRefusedAt (turn_rules l p) rest n → ⊥) → (f : TextFault) → Reason bytes f → ⊥
    no_reason accepted few all f (has_no_first_line e bare) = no_plant_stands bytes l p rest accepted are bare
    no_reason accepted few all f (has_no_plant g e h) = plant_or_refused g h
    no_reason accepted few all f (has_many_turns e h) = many_moved h few
    no_reason accepted few all f (has_refused_row n e h) = all h.line (rows_moved n h).1

  one_row_refusal : (bytes : List ℕ) (m n : ℕ) → AreRowsRefusedAt kinds bytes m → AreRowsRefusedAt kinds bytes n → m ≡ n
  one_row_refusal bytes m n h k =
      let moved = rows_moved bytes k.kind k.plant k.rest k.limits k.are m h in
      moved.2
      ∙ ap (λ (l : ℕ). line_count (first_line k.kind ++ text_of k.plant) + l) (one_turns_refused (turn_rules k.kind k.plant) (small_turns k.kind k.plant k.limits) k.rest h.line k.line moved.1 k.refused)
      ∙ sym k.number

  one_reason : (bytes : List ℕ) (f g : TextFault) → Reason bytes f → Reason bytes g → f ≡ g
  one_reason bytes f g (has_no_first_line e bare) (has_no_first_line d also) = e ∙ sym d
  one_reason bytes f g (has_no_first_line e bare) (has_no_plant b d k) = absurd (bare k.kind k.accepted (k.rest, k.are))
  one_reason bytes f g (has_no_first_line e bare) (has_many_turns d k) = absurd (no_plant_stands bytes k.kind k.plant k.rest k.accepted k.are bare)
  one_reason bytes f g (has_no_first_line e bare) (has_refused_row n d k) = absurd (no_plant_stands bytes k.kind k.plant k.rest k.accepted k.are bare)
  one_reason bytes f g (has_no_plant a e h) (has_no_first_line d bare) = absurd (bare h.kind h.accepted (h.rest, h.are))
  one_reason bytes f g (has_no_plant a e h) (has_no_plant b d k) = e ∙ ap fault_of_front (one_plant_refusal bytes a b h k) ∙ sym d
  one_reason bytes f g (has_no_plant a e h) (has_many_turns d k) = absurd (plant_or_refused bytes k.kind k.plant k.rest k.limits k.are a h)
  one_reason bytes f g (has_no_plant a e h) (has_refused_row n d k) = absurd (plant_or_refused bytes k.kind k.plant k.rest k.limits k.are a h)
  one_reason bytes f g (has_many_turns e h) (has_no_first_line d bare) = absurd (no_plant_stands bytes h.kind h.plant h.rest h.accepted h.are bare)
  one_reason bytes f g (has_many_turns e h) (has_no_plant b d k) = absurd (plant_or_refused bytes h.kind h.plant h.rest h.limits h.are b k)
  one_reason bytes f g (has_many_turns e h) (has_many_turns d k) = e ∙ sym d
  one_reason bytes f g (has_many_turns e h) (has_refused_row n d k) = absurd (many_moved bytes k.kind k.plant k.rest k.limits k.are h k.few)
  one_reason bytes f g (has_refused_row m e h) (has_no_first_line d bare) = absurd (no_plant_stands bytes h.kind h.plant h.rest h.accepted h.are bare)
  one_reason bytes f g (has_refused_row m e h) (has_no_plant b d k) = absurd (plant_or_refused bytes h.kind h.plant h.rest h.limits h.are b k)
  one_reason bytes f g (has_refused_row m e h) (has_many_turns d k) = absurd (many_moved bytes h.kind h.plant h.rest h.limits h.are k h.few)
  one_reason bytes f g (has_refused_row m e h) (has_refused_row n d k) = e ∙ ap faults.Malformed (one_row_refusal bytes m n h k) ∙ sym d

  pub one_refusal : (bytes : List ℕ) (f g : TextFault) → IsTextRefusedFor kinds bytes f → IsTextRefusedFor kinds bytes g → f ≡ g
  one_refusal bytes f g h k = one_by_length (length bytes ≤ most_bytes_of kinds) (Reason bytes f) (Reason bytes g) (faults.Limit TableText) f g (by_length bytes f h) (by_length bytes g k) (one_reason bytes f g)

-- ---- never both

-- a kind that is accepted has its own limit
same_limit : (kinds : Kinds) (kind : TextKind) → Accept kinds kind → most_bytes kind ≡ most_bytes_of kinds
same_limit AnyTable (Table version) accepted = refl
same_limit AnyTable Stay accepted = absurd accepted
same_limit AnyTable Patrol accepted = absurd accepted
same_limit (Only one) kind accepted = ap most_bytes accepted

pub no_text_is_refused : NoTextIsRefused
no_text_is_refused kinds k bytes p turns f accepted t refused =
    elim (by_length kinds bytes f refused) [
      | inl long ↦ long.1 (subst (λ (most : ℕ). length bytes ≤ most) (same_limit kinds k accepted) (texts_are_short k bytes p turns t))
      | inr reason ↦
          no_reason kinds bytes k p (after_plant k p turns) t.limits t.text accepted t.few
          (λ n r. turns_or_refused (turn_rules k p) (small_turns k p t.limits) (after_plant k p turns) turns n (record { within = t.within; text = refl }) r) f reason.1
    ]

-- ---- no text is neither: where none of these stands, nothing is denied

module _ (kinds : Kinds) (bytes : List ℕ) (untold : (k : TextKind) (p : Description) (turns : List (List (Option Row))) → Accept kinds k → IsTextOf k bytes p turns → ⊥)
    (unrefused : (f : TextFault) → IsTextRefusedFor kinds bytes f → ⊥) where
  module _ (short : length bytes ≤ most_bytes_of kinds) (k : TextKind) (rest : List ℕ) (accepted : Accept kinds k) (are : bytes ≡ first_line k ++ rest) where
    unrefused_after : (f : TextFault) → AreLinesRefusedFor (Only k) (first_line k ++ rest) f → ⊥
    unrefused_after f refused = unrefused f (refused_among kinds k bytes rest short accepted are f refused)

    no_fault : (f : PlantFault) → IsFrontRefusedFor rest f → ⊥
    no_fault (front.Malformed n) refused = unrefused_after (faults.Malformed (suc n)) (inr (inl (n, refl, plant_refused k rest (front.Malformed n) refused)))
    no_fault (front.Limit what) refused = unrefused_after (faults.Limit what) (plant_refused k rest (front.Limit what) refused)
    no_fault front.Memory refused = refused

    module _ (p : Description) (count : ℕ) (is_front : IsFront rest p count) (limits : IsWithinLimits p) where
      no_row : HasFewTurnsFor k p → (n : ℕ) → AreTurnsRefusedAt (turn_rules k p) (drop count rest) n → ⊥
      no_row few n refused = unrefused_after (faults.Malformed (1 + line_count (take count rest) + n)) (inr (inr (rows_refused k rest p count is_front limits few n (line_count (take count rest)) refl refused)))

      no_turns : HasFewTurnsFor k p → (turns : List (List (Option Row))) → AreTurnsText (turn_rules k p) (drop count rest) turns → ⊥
      no_turns few turns told = untold k p turns accepted (subst (λ (x : List ℕ). IsTextOf k x p turns) (sym are) (text_told k rest p count is_front limits few turns told))

    no_plant : (p : Description) (count : ℕ) → IsFront rest p count → IsWithinLimits p → ⊥
    no_plant p count is_front limits = elim (few_or_many k p) [
      | inl few ↦ no_turns_are_neither (turn_rules k p) (small_turns k p limits) (drop count rest) (no_turns p count is_front limits few) (no_row p count is_front limits few)
      | inr many ↦ unrefused_after faults.Turns (many_turns k rest p count is_front limits many)
    ]

  pub no_text_is_neither : ⊥
  no_text_is_neither =
      elim (cases_lt (most_bytes_of kinds) (length bytes)) [
        | inl long ↦ unrefused (faults.Limit TableText) (λ short. omega (arith, long, short))
        | inr short ↦ either ((k : TextKind) × Accept kinds k × BeginsAs k bytes) (λ begun. elim begun [
          | inl (k, accepted, (rest, are)) ↦ no_front_is_neither rest (no_plant short k rest accepted are) (no_fault short k rest accepted are)
          | inr nothing ↦ unrefused (faults.Malformed 1) (short, inl (refl, λ k accepted first. nothing (k, accepted, first)))
        ])
      ]
