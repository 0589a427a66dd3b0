-- A text spells at most one plant, has at most one reason to be refused, and never both.
use Rattle.std.proofs.Common.{inl, inr, ◌≡◌, ◌⊎◌, List, [], ℕ, Some, None, refl, sym, ◌∙◌, ap, subst}
use Rattle.std.proofs.lemmas.Option.{same_Some}
use Rattle.plant_record.specs.declared.limit_kind.LimitKind.TheVariants.{PlantText, TableText, Vectors, Cells, Pairs, Edges}
use Rattle.plant_record.specs.Description.{Description}
use Rattle.plant_record.specs.Plants.{IsPlant}
use Rattle.line_words.specs.Lines.{lines_of}
use Rattle.text_pieces.proofs.Laws as texts
use Rattle.plant_text.specs.declared.plant_fault.PlantFault.{PlantFault}
use Rattle.plant_text.specs.declared.plant_fault.PlantFault.TheVariants as faults
use Rattle.plant_text.specs.Grammar.{PartialPlant, nothing_yet, HasEquations, LineStep, IsEnded, IsWhole, Spells, IsLineRefused}
use Rattle.plant_text.specs.PlantRefusals.{IsShort, IsRefusedFor}
use Rattle.plant_text.specs.Laws.{OnePlantPerText, OneRefusal, NoPlantTextIsRefused, SpelledPlantsArePlants}
use Rattle.plant_text.specs.inside.PartialPlantRules.{KeepsRules, IsAimless}
use Rattle.plant_text.proofs.lemmas.RulesKept.{rules_of_nothing}
use Rattle.plant_text.proofs.lemmas.LineGrammar.{lines_are_grammar}
use Rattle.plant_text.proofs.lemmas.LineFaults.{AreApart, IsReason, one_reason, no_reason}

-- ---- the plant that a part holds

-- a whole part holds one plant
pub one_whole : (q : PartialPlant) (p r : Description) → IsWhole q p → IsWhole q r → p ≡ r
one_whole q p r first second = λ i.
    record {
      version = same_Some p.version r.version (sym first.version ∙ second.version) i;
      states = (sym first.states ∙ second.states) i;
      inputs = (sym first.inputs ∙ second.inputs) i;
      noises = (sym first.noises ∙ second.noises) i;
      equations = (sym first.equations ∙ second.equations) i;
      targets = (sym first.targets ∙ second.targets) i;
      obstacles = (sym first.obstacles ∙ second.obstacles) i;
      goal = same_Some p.goal r.goal (sym first.goal ∙ second.goal) i;
    }

-- where a goal stands, each state has its equation
pub has_equations : (q : PartialPlant) → HasEquations q ⊎ IsAimless q → (q.goal ≡ None → ⊥) → HasEquations q
has_equations q (inl has) some = has
has_equations q (inr aims) some = absurd (some aims.2)

-- what a closed part holds is a plant
pub whole_is_plant : (q : PartialPlant) (p : Description) → KeepsRules q → IsWhole q p → IsPlant p
whole_is_plant q p k whole =
    let placed : HasEquations q = has_equations q k.placed (λ none. (let g = whole.goal in cc)) in
    rw (sym whole.states, sym whole.inputs, sym whole.noises, sym whole.equations, sym whole.targets, sym whole.obstacles) (record {
      some_state = placed.0;
      states_bound = k.states_bound;
      states = k.states;
      inputs_bound = k.inputs_bound;
      inputs = k.inputs;
      noises_bound = k.noises_bound;
      noises = k.noises;
      names_differ = k.names_differ;
      one_each = placed.1;
      equations = k.equations;
      tables = λ e. k.tables (whole.version ∙ ap Some e);
      targets_bound = k.targets_bound;
      targets = k.targets;
      obstacles_bound = k.obstacles_bound;
      obstacles = k.obstacles;
      kept_aims_nowhere = λ e. k.kept_aims_nowhere (whole.goal ∙ ap Some e);
    })

pub spelled_is_plant : SpelledPlantsArePlants
spelled_is_plant bytes p spells =
    let reading = spells.1 in
    whole_is_plant spells.0 p (texts.met LineStep IsEnded KeepsRules lines_are_grammar nothing_yet reading.pieces spells.0 rules_of_nothing (reading.read).leads) spells.2

-- ---- one plant, or one reason

pub one_plant : OnePlantPerText
one_plant bytes p r first second =
    let same = texts.one_reading LineStep IsEnded KeepsRules lines_are_grammar nothing_yet (lines_of bytes) second.0 first.0 [] [] rules_of_nothing second.1 first.1 in
    one_whole first.0 p r first.2 (subst (λ (q : PartialPlant). IsWhole q r) same.0 second.2)

module _ (bytes : List ℕ) where
  abbrev IsLine : ℕ → Type 0
  IsLine n = IsLineRefused (lines_of bytes) n

  abbrev IsOf : Description → Type 0
  IsOf p = Spells bytes p

  lines_apart : AreApart IsLine IsOf
  lines_apart = record {
    one_line = λ m n f g. texts.one_refusal LineStep IsEnded KeepsRules lines_are_grammar nothing_yet (lines_of bytes) m n rules_of_nothing f g;
    one_plant = one_plant bytes;
    line_or_plant = λ n p f spells. texts.read_or_refused LineStep IsEnded KeepsRules lines_are_grammar nothing_yet (lines_of bytes) spells.0 [] n rules_of_nothing spells.1 f;
  }

  -- a text is too long, or it is short and refused for a line or a limit
  by_length : (f : PlantFault) → IsRefusedFor bytes f → ((f ≡ faults.Limit PlantText) × (IsShort bytes → ⊥)) ⊎ (IsShort bytes × IsReason IsLine IsOf f)
  by_length (faults.Malformed n) h = inr h
  by_length (faults.Limit PlantText) h = inl (refl, h)
  by_length (faults.Limit TableText) h = absurd h
  by_length (faults.Limit Vectors) h = inr h
  by_length (faults.Limit Cells) h = inr h
  by_length (faults.Limit Pairs) h = inr h
  by_length (faults.Limit Edges) h = absurd h
  by_length faults.Memory h = absurd h

pub one_refusal : OneRefusal
one_refusal bytes f g h k =
    texts.one_by_length (IsShort bytes) (IsReason (IsLine bytes) (IsOf bytes) f) (IsReason (IsLine bytes) (IsOf bytes) g) (faults.Limit PlantText) f g (by_length bytes f h) (by_length bytes g k)
    (one_reason (IsLine bytes) (IsOf bytes) (lines_apart bytes) f g)

pub no_plant_text_is_refused : NoPlantTextIsRefused
no_plant_text_is_refused bytes p f spells short within h = elim (by_length bytes f h) [
  | inl long ↦ long.1 short
  | inr reason ↦ no_reason (IsLine bytes) (IsOf bytes) (lines_apart bytes) p f spells within reason.1
]
