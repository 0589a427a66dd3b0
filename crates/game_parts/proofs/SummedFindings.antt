-- What is found at all parts.
use Rattle.std.proofs.Common.{◌≡◌, ℕ, zero, suc, ◌+◌, ◌*◌, ◌^◌, ◌<◌, ◌≤◌, min, Bool, true, false, not, List, [], ◌∷◌, ◌++◌, map, Option, Some, None, length, take, refl, sym, ap, subst, ◌∙◌, arith}
use Rattle.std.specs.Prelude.{Ok, Err, IfOk, IfErr, OnOk, MatchResult}
use Rattle.std.specs.declared.result.Result.{Result}
use Rattle.std.specs.List.{AllZip, range_with_len}
use Rattle.std.specs.Int.{div_ceil}
use Rattle.std.specs.Option.{is_some}
use Rattle.std.proofs.lemmas.Bool.{false≢true}
use Rattle.std.proofs.Math.Nat.{add-mul, one-mul}
use Rattle.std.proofs.lemmas.Grind.{div_ceil_times}
use Rattle.std.proofs.lemmas.Nat.{mul-le}
use Rattle.std.proofs.lemmas.List.{take_all, take_more}
use Rattle.std.proofs.lemmas.List.Sums.{sum_by_more}
use Rattle.grid_quantiser.specs.Axes.{cells_of}
use Rattle.game_core.specs.declared.game.Mark.{Mark}
use Rattle.game_core.specs.Game.{Game}
use Rattle.plant_record.specs.Description.{Description, axes_of, vectors_of}
use Rattle.plant_record.specs.Limits.{IsWithinLimits}
use Rattle.plant_game.specs.Marks.{AreMarksOf}
use Rattle.game_parts.specs.declared.part_search.PartFinding.{PartFinding}
use Rattle.plant_game.specs.declared.build_fault.BuildFault.{BuildFault}
use Rattle.plant_game.specs.declared.build_fault.BuildFault.TheVariants.{TooManyEdges}
use Rattle.plant_game.specs.Faults.{IsFaultOf}
use Rattle.game_parts.specs.GameParts.{IsFirstInGame}
use Rattle.game_parts.specs.inside.Findings.{finding_at, edges_found, first_of, first_found, HoldFindings}
use Rattle.game_parts.specs.inside.GameParts.{HaveFirst, IsFindingOf}
use Rattle.source_lists.proofs.Mapped.{mapped_at, mapped_long}
use Rattle.game_parts.proofs.PartFindings.{found_none, finding_more, found_edges, found_fit, found_first}
use Rattle.source_lists.proofs.SourceBands.{all_ok}

-- the first that was found before a finding comes first
pub first_more_found : (findings : List PartFinding) (f : PartFinding) → first_found (findings ++ f ∷ []) ≡ first_of (first_found findings) f.first
first_more_found [] f = last f.first
  where
    last : (o : Option ℕ) → first_of o None ≡ o
    last None = refl
    last (Some c) = refl
first_more_found (g ∷ findings) f = ap (first_of g.first) (first_more_found findings f) ∙ three g.first
  where
    three : (o : Option ℕ) → first_of o (first_of (first_found findings) f.first) ≡ first_of (first_of o (first_found findings)) f.first
    three None = refl
    three (Some c) = refl

first_kept : (first later : Option ℕ) (w : ℕ) → first ≡ Some w → first_of first later ≡ Some w
first_kept first later w is = ap (λ o. first_of o later) is

first_none : (first later : Option ℕ) → first ≡ None → first_of first later ≡ later
first_none first later is = ap (λ o. first_of o later) is

-- a finding more
pub first_next : (findings : List PartFinding) (k : ℕ) (first : Option ℕ) (f : PartFinding) → k < length findings → f ≡ finding_at findings k → first ≡ first_found (take k findings) →
    first_of first f.first ≡ first_found (take (k + 1) findings)
first_next findings k first f lt at is =
    ap (λ (o : Option ℕ). first_of o f.first) is
    ∙ ap (λ (g : PartFinding). first_of (first_found (take k findings)) g.first) at
    ∙ sym (ap first_found (take_more findings k (record { edges = 0; first = None }) lt) ∙ first_more_found (take k findings) (finding_at findings k))

-- the later one counts if there is none before, and only then
pub taken_later : (first later : Option ℕ) (none : Bool) → is_some first ≡ not none → none ≡ true → later ≡ first_of first later
taken_later None later none answer is = refl
taken_later (Some c) later none answer is = absurd (false≢true (sym (answer ∙ ap not is)))

pub taken_first : (first later : Option ℕ) (none : Bool) → is_some first ≡ not none → none ≡ false → first ≡ first_of first later
taken_first None later none answer is = absurd (false≢true (answer ∙ ap not is))
taken_first (Some c) later none answer is = refl

-- a part begins before the last cell
pub part_begins : (cells size k : ℕ) → 1 ≤ size → k < div_ceil cells size → k * size < cells
part_begins cells size k some below = omega (arith, mul-le (k + 1) size (div_ceil cells size) size (omega (arith, below)) (omega arith), add-mul k 1 size, one-mul size, (div_ceil_times cells size some).1)

module _ (p : Description) (marks : List Mark) (Fact : Game → ℕ → Type 0) (size : ℕ) (some : 1 ≤ size) (findings : List PartFinding) (h : HoldFindings p marks Fact size findings) where
  abbrev cells : ℕ
  cells = cells_of (axes_of p)

  -- what is found at the first parts
  abbrev IsSoFar : ℕ → Type 0
  IsSoFar k = IsFindingOf p marks Fact 0 (min cells (k * size)) (edges_found (take k findings)) (first_found (take k findings))

  step : (k : ℕ) → k < length findings → IsSoFar k → IsSoFar (k + 1)
  step k lt so_far =
      let f = finding_at findings k in
      let here = h.each k lt in
      let begins : k * size < cells = part_begins cells size k some (omega (arith, lt, h.parts)) in
      let start : min cells (k * size) ≡ k * size = omega (arith, begins) in
      let end : min cells (k * size + size) ≡ min cells ((k + 1) * size) = omega (arith, add-mul k 1 size, one-mul size) in
      let more : take (k + 1) findings ≡ take k findings ++ f ∷ [] = take_more findings k (record { edges = 0; first = None }) lt in
      let total : edges_found (take (k + 1) findings) ≡ edges_found (take k findings) + f.edges = sum_by_more (λ (g : PartFinding). g.edges) findings k (record { edges = 0; first = None }) lt in
      let first : first_found (take (k + 1) findings) ≡ first_of (first_found (take k findings)) f.first = ap first_found more ∙ first_more_found (take k findings) f in
      let before : IsFindingOf p marks Fact 0 (k * size) (edges_found (take k findings)) (first_found (take k findings)) =
      subst (λ (n : ℕ). IsFindingOf p marks Fact 0 n (edges_found (take k findings)) (first_found (take k findings))) start so_far
      in
      subst (λ (n : ℕ). IsFindingOf p marks Fact 0 n (edges_found (take (k + 1) findings)) (first_found (take (k + 1) findings))) end
      (finding_more p marks Fact 0 (k * size) (min cells (k * size + size)) (omega arith) (omega (arith, begins)) (edges_found (take k findings)) (first_found (take k findings)) before here.boxes here.long here.each
      (edges_found (take (k + 1) findings)) (omega (arith, total, here.edges_are)) (first_found (take (k + 1) findings))
      (λ w is. first ∙ first_kept (first_found (take k findings)) f.first w is)
      (λ none few. subst (HaveFirst p marks Fact (k * size) (min cells (k * size + size)) here.boxes) (sym (first ∙ first_none (first_found (take k findings)) f.first none)) (here.first_is (omega (arith, few, total)))))

  so_far : (k : ℕ) → k ≤ length findings → IsSoFar k
  so_far zero le = let none : 0 ≡ min cells (0 * size) = omega arith in subst (λ (n : ℕ). IsFindingOf p marks Fact 0 n 0 None) none (found_none p marks Fact 0)
  so_far (suc k) le = let next : k + 1 ≡ suc k = omega arith in subst IsSoFar next (step k (omega (arith, le)) (so_far k (omega (arith, le))))

  -- and at all
  pub summed : IsFindingOf p marks Fact 0 cells (edges_found findings) (first_found findings)
  summed =
      let all : take (length findings) findings ≡ findings = take_all (length findings) findings (omega arith) in
      let end : min cells (length findings * size) ≡ cells = omega (arith, (div_ceil_times cells size some).0, ap (λ (n : ℕ). n * size) h.parts) in
      subst (λ (fs : List PartFinding). IsFindingOf p marks Fact 0 cells (edges_found fs) (first_found fs)) all
      (subst (λ (n : ℕ). IsFindingOf p marks Fact 0 n (edges_found (take (length findings) findings)) (first_found (take (length findings) findings))) end (so_far (length findings) (omega arith)))

  -- what is summed up of them
  module _ (limits : IsWithinLimits p) where
    pub sum_fits : edges_found findings < 2 ^ 64
    sum_fits = found_fit p marks Fact limits (edges_found findings) (first_found findings) summed

    pub first_result : AreMarksOf p marks → 1 ≤ vectors_of p.inputs → (r : Result (Option ℕ) BuildFault) → OnOk r (edges_found findings ≤ 2 ^ 25) → IfOk r (λ first. first ≡ first_found findings) → IfOk r (IsFirstInGame p Fact)
    first_result marks_of some_input (Ok v) few is = subst (IsFirstInGame p Fact) (sym is) (found_first p marks Fact limits (edges_found findings) (first_found findings) summed marks_of some_input few)
    first_result marks_of some_input (Err e) few is = tt

    pub fault_result : (r : Result (Option ℕ) BuildFault) → IfErr r (λ fault. (fault ≡ TooManyEdges (edges_found findings)) × (2 ^ 25 < edges_found findings)) → IfErr r (IsFaultOf p)
    fault_result (Ok v) h = tt
    fault_result (Err e) h = subst (IsFaultOf p) (sym h.0) (found_edges p marks Fact limits (edges_found findings) (first_found findings) summed, h.1)

-- where a call for each part gave something, that is what was found at the parts
pub hold_findings : {V E : Type 0} (items : V → List PartFinding) (F : E → Type 0) (p : Description) (marks : List Mark) (Fact : Game → ℕ → Type 0) (size n : ℕ) (rs : List (Result PartFinding E)) (r : Result V E) → n ≡ div_ceil (cells_of (axes_of p)) size →
    AllZip (λ k r. IfOk r (λ (f : PartFinding). IsFindingOf p marks Fact (k * size) (min (cells_of (axes_of p)) (k * size + size)) f.edges f.first)) (range_with_len 0 n) rs →
    MatchResult r (λ v. (findings : List PartFinding) × (rs ≡ map Ok findings) × (items v ≡ findings)) F → IfOk r (λ v. HoldFindings p marks Fact size (items v))
hold_findings items F p marks Fact size n rs (Err e) parts each h = tt
hold_findings {E = E} items F p marks Fact size n rs (Ok v) parts each h =
    let Held : ℕ → PartFinding → Type 0 = λ k f. IsFindingOf p marks Fact (k * size) (min (cells_of (axes_of p)) (k * size + size)) f.edges f.first in
    let by_call = subst (λ (rs : List (Result PartFinding E)). AllZip (λ (k : ℕ) (r : Result PartFinding E). IfOk r (Held k)) (range_with_len 0 n) rs) h.1 each in
    let by_part = all_ok E Held (range_with_len 0 n) h.0 by_call in
    rw h.2 (record { parts = mapped_long Held n h.0 by_part ∙ parts; each = λ k lt. mapped_at Held n h.0 by_part k (record { edges = 0; first = None }) (omega (arith, lt, mapped_long Held n h.0 by_part)) })
