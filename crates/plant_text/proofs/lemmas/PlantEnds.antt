-- No text is neither that of a plant within the limits nor refused, and no front either.
use Rattle.std.proofs.Common.{inl, inr, ◌≡◌, ℕ, ◌-◌, true, List, [], length, Option, Some, None, refl, subst, arith}
use Rattle.std.proofs.lemmas.Bool.{cases_lt}
use Rattle.line_words.specs.Lines.{lines_of}
use Rattle.plant_record.specs.declared.limit_kind.LimitKind.TheVariants.{PlantText, Vectors, Cells, Pairs}
use Rattle.plant_record.specs.declared.aims.GoalKind.{GoalKind}
use Rattle.plant_record.specs.declared.version.PlantVersion.{PlantVersion}
use Rattle.plant_record.specs.Description.{Description}
use Rattle.plant_record.specs.Limits.{IsWithinLimits}
use Rattle.plant_record.proofs.lemmas.LimitEnds.{LimitsEnd, is_within, has_many_vectors, has_many_cells, has_many_pairs, limits_end}
use Rattle.text_pieces.specs.Steps.{IsReading}
use Rattle.text_pieces.proofs.Laws.{undeniable, met}
use Rattle.plant_text.specs.declared.plant_fault.PlantFault.{PlantFault}
use Rattle.plant_text.specs.declared.plant_fault.PlantFault.TheVariants as faults
use Rattle.plant_text.specs.Grammar.{PartialPlant, nothing_yet, LineStep, IsEnded, IsWhole, Spells}
use Rattle.plant_text.specs.CanonicalFronts.{FrontStep, IsFrontEnded, IsFront, IsFrontRefusedFor}
use Rattle.plant_text.specs.PlantRefusals.{IsShort, IsRefusedFor}
use Rattle.plant_text.specs.Laws.{NoPlantTextIsNeither, NoFrontIsNeither}
use Rattle.plant_text.specs.inside.PartialPlantRules.{KeepsRules}
use Rattle.plant_text.proofs.lemmas.FrontGrammar.{IsOnTheWay, at_the_beginning, front_is_grammar, read_way, read_front}
use Rattle.plant_text.proofs.lemmas.LineGrammar.{lines_are_grammar}
use Rattle.plant_text.proofs.lemmas.LinesLead.{spelled_is_plant}
use Rattle.plant_text.proofs.lemmas.RulesKept.{rules_of_nothing}

-- the plant that a closed part holds
whole : (q : PartialPlant) → KeepsRules q → q.ended ≡ true → (p : Description) × IsWhole q p
whole q rules closed = by q.version q.goal refl refl
  where
    by : (version : Option PlantVersion) (goal : Option GoalKind) → q.version ≡ version → q.goal ≡ goal → (p : Description) × IsWhole q p
    by None goal v g = absurd ((rules.closed closed).1 v)
    by (Some version) None v g = absurd ((rules.closed closed).0 g)
    by (Some version) (Some goal) v g = (
      record { version = version; states = q.states; inputs = q.inputs; noises = q.noises; equations = q.equations; targets = q.targets; obstacles = q.obstacles; goal = goal },
      record { closed = closed; version = v; states = refl; inputs = refl; noises = refl; equations = refl; targets = refl; obstacles = refl; goal = g },
    )

-- ---- a plant text

module _ (bytes : List ℕ) (none : (p : Description) → Spells bytes p → IsShort bytes → IsWithinLimits p → ⊥) (unrefused : (f : PlantFault) → IsRefusedFor bytes f → ⊥) where
  spelled_end : (p : Description) → IsShort bytes → Spells bytes p → LimitsEnd p → ⊥
  spelled_end p short spells (is_within limits) = none p spells short limits
  spelled_end p short spells (has_many_vectors many) = unrefused (faults.Limit Vectors) (short, (p, spells, many))
  spelled_end p short spells (has_many_cells many) = unrefused (faults.Limit Cells) (short, (p, spells, many))
  spelled_end p short spells (has_many_pairs many) = unrefused (faults.Limit Pairs) (short, (p, spells, many))

  read_end : (q : PartialPlant) (rest : List (List ℕ)) → IsShort bytes → IsReading LineStep IsEnded nothing_yet (lines_of bytes) q rest → ⊥
  read_end q rest short reading =
      let all : IsReading LineStep IsEnded nothing_yet (lines_of bytes) q [] = subst (λ (lines : List (List ℕ)). IsReading LineStep IsEnded nothing_yet (lines_of bytes) q lines) reading.closed.0 reading in
      let held = whole q (met LineStep IsEnded KeepsRules lines_are_grammar nothing_yet reading.pieces q rules_of_nothing (reading.read).leads) reading.closed.1 in
      let spells : Spells bytes held.0 = (q, all, held.1) in
      spelled_end held.0 short spells (limits_end held.0 (spelled_is_plant bytes held.0 spells))

  text_end : ⊥
  text_end =
      elim (cases_lt 65536 (length bytes)) [
        | inl long ↦ unrefused (faults.Limit PlantText) (λ le. omega (arith, long, le))
        | inr short ↦ undeniable LineStep IsEnded KeepsRules lines_are_grammar nothing_yet (lines_of bytes) rules_of_nothing
            (λ q rest reading. read_end q rest short reading) (λ n refused. unrefused (faults.Malformed n) (short, refused))
      ]

pub no_plant_text_is_neither : NoPlantTextIsNeither
no_plant_text_is_neither bytes none unrefused = text_end bytes none unrefused

-- ---- the plant at the front

module _ (bytes : List ℕ) (none : (p : Description) (count : ℕ) → IsFront bytes p count → IsWithinLimits p → ⊥) (unrefused : (f : PlantFault) → IsFrontRefusedFor bytes f → ⊥) where
  front_end : (p : Description) (count : ℕ) → IsFront bytes p count → LimitsEnd p → ⊥
  front_end p count is_front (is_within limits) = none p count is_front limits
  front_end p count is_front (has_many_vectors many) = unrefused (faults.Limit Vectors) (p, count, is_front, many)
  front_end p count is_front (has_many_cells many) = unrefused (faults.Limit Cells) (p, count, is_front, many)
  front_end p count is_front (has_many_pairs many) = unrefused (faults.Limit Pairs) (p, count, is_front, many)

  unread : (q : PartialPlant) (rest : List ℕ) → IsReading FrontStep IsFrontEnded nothing_yet bytes q rest → ⊥
  unread q rest reading =
      let way = read_way bytes rest reading.pieces q reading.read in
      let held = whole q way.rules reading.closed in
      let is_front = read_front bytes rest reading.pieces q held.0 reading.read held.1 in
      front_end held.0 (length bytes - length rest) is_front (limits_end held.0 is_front.plant)

pub no_front_is_neither : NoFrontIsNeither
no_front_is_neither bytes none unrefused =
    undeniable FrontStep IsFrontEnded IsOnTheWay front_is_grammar nothing_yet bytes at_the_beginning (unread bytes none unrefused) (λ n refused. unrefused (faults.Malformed n) refused)
