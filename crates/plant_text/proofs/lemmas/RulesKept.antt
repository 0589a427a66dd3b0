-- Every part that lines spell keeps the rules.
use Rattle.std.proofs.Common.{inl, inr, ◌≡◌, ◌≢◌, ◌⊎◌, ℕ, ◌<◌, ◌≤◌, Bool, true, Option, Some, List, [], ◌∷◌, ◌++◌, length, None, All, arith, refl, sym, ap, subst, append_assoc, append-nil, length-append}
use Rattle.std.specs.Prelude.{AllPairs}
use Rattle.std.specs.List.{flat_map}
use Rattle.std.proofs.lemmas.List.{map-append, nil_from_length}
use Rattle.std.proofs.lemmas.List.Elements.{All-push, All-same, All-nil}
use Rattle.fixed_expr.specs.Expression.{Expression}
use Rattle.plant_record.specs.declared.variables.StateVariable.{StateVariable}
use Rattle.plant_record.specs.declared.variables.InputVariable.{InputVariable}
use Rattle.plant_record.specs.declared.variables.NoiseVariable.{NoiseVariable}
use Rattle.plant_record.specs.declared.aims.StateBox.{StateBox}
use Rattle.plant_record.specs.declared.aims.GoalKind.{GoalKind}
use Rattle.plant_record.specs.declared.aims.GoalKind.TheVariants.{Keep}
use Rattle.plant_record.specs.declared.version.PlantVersion.{PlantVersion}
use Rattle.plant_record.specs.declared.version.PlantVersion.TheVariants.{One}
use Rattle.line_words.specs.Names.{IsName}
use Rattle.plant_record.specs.Variables.{IsStateVariable, IsInputVariable, IsNoiseVariable}
use Rattle.plant_record.specs.StateBoxes.{IsStateBox}
use Rattle.plant_record.specs.Equations.{IsEquation, HasLiterals, HasNoLut}
use Rattle.line_words.specs.Words.{words_of}
use Rattle.line_words.specs.Tokens.{tokens_of}
use Rattle.expression_reading.specs.SyntaxTrees.{AreTokensOf}
use Rattle.plant_reading.specs.Statements.{Statement, Version, State, Input, Noise, Next, Target, Obstacle, Goal, End, States}
use Rattle.plant_text.specs.Grammar.{PartialPlant, nothing_yet, names_in, HasEquations, FitsAfter, with_statement, Extends}
use Rattle.plant_text.specs.inside.PartialPlantRules.{KeepsRules, IsAimless}
use Rattle.plant_text.proofs.lemmas.TreeLiterals.{tree_literals}
use Rattle.plant_text.proofs.lemmas.Lists.{differ}

-- a new name at the end of the names
pub rules_of_nothing : KeepsRules nothing_yet
rules_of_nothing = record {
  unbegun = λ _. refl;
  states_bound = omega arith;
  states = All-nil IsStateVariable;
  inputs_bound = omega arith;
  inputs = All-nil IsInputVariable;
  noises_bound = omega arith;
  noises = All-nil IsNoiseVariable;
  names = All-nil IsName;
  names_differ = λ i j d lt below. absurd (omega (arith, below));
  equations_bound = omega arith;
  equations = All-nil (IsEquation 0);
  tables = λ _. All-nil HasNoLut;
  targets_bound = omega arith;
  targets = All-nil (IsStateBox 0);
  obstacles_bound = omega arith;
  obstacles = All-nil (IsStateBox 0);
  placed = inr (refl, refl, refl);
  kept_aims_nowhere = λ _. refl;
  closed = λ e. absurd cc;
}

-- where no equation stands, nothing is aimed at
pub aimless : (q : PartialPlant) → KeepsRules q → (HasEquations q → ⊥) → IsAimless q
aimless q k none = elim k.placed [
  | inl has ↦ absurd (none has)
  | inr aims ↦ aims
]

pub no_equations : (q : PartialPlant) → q.equations ≡ [] → HasEquations q → ⊥
no_equations q none has = let count : length q.equations ≡ 0 = ap length none in omega (arith, count, has.0, has.1)

rules_state : (q : PartialPlant) (s : StateVariable) → KeepsRules q → IsStateVariable s → FitsAfter q (State s) → KeepsRules (with_statement q (State s))
rules_state q s k is fits =
    let names : names_in (with_statement q (State s)) ≡ names_in q ++ s.name ∷ [] = rw (fits.1, fits.2, map-append (λ (t : StateVariable). t.name) q.states (s ∷ [])) (simp (append_assoc, append-nil)) in
    let capacity : length q.states < 6 = fits.4 in
    let aims = aimless q k (no_equations q fits.3) in
    record {
      unbegun = λ none. absurd (fits.0 none);
      states_bound = omega (arith, capacity, length-append q.states (s ∷ []));
      states = All-push IsStateVariable q.states s k.states is;
      inputs_bound = k.inputs_bound;
      inputs = k.inputs;
      noises_bound = k.noises_bound;
      noises = k.noises;
      names = subst (All IsName) (sym names) (All-push IsName (names_in q) s.name k.names is.name);
      names_differ = subst (AllPairs (λ a b. a ≢ b)) (sym names) (differ (names_in q) s.name k.names_differ fits.5);
      equations_bound = omega (arith, k.equations_bound, length-append q.states (s ∷ []));
      equations = All-same (IsEquation (length (names_in (with_statement q (State s))))) q.equations [] fits.3 (All-nil (IsEquation (length (names_in (with_statement q (State s))))));
      tables = k.tables;
      targets_bound = k.targets_bound;
      targets = All-same (IsStateBox (length (q.states ++ s ∷ []))) q.targets [] aims.0 (All-nil (IsStateBox (length (q.states ++ s ∷ []))));
      obstacles_bound = k.obstacles_bound;
      obstacles = All-same (IsStateBox (length (q.states ++ s ∷ []))) q.obstacles [] aims.1 (All-nil (IsStateBox (length (q.states ++ s ∷ []))));
      placed = inr aims;
      kept_aims_nowhere = k.kept_aims_nowhere;
      closed = k.closed;
    }

rules_input : (q : PartialPlant) (i : InputVariable) → KeepsRules q → IsInputVariable i → FitsAfter q (Input i) → KeepsRules (with_statement q (Input i))
rules_input q i k is fits =
    let names : names_in (with_statement q (Input i)) ≡ names_in q ++ i.name ∷ [] = rw (fits.1, map-append (λ (t : InputVariable). t.name) q.inputs (i ∷ [])) (simp (append_assoc, append-nil)) in
    let capacity : length q.inputs < 3 = fits.3 in
    record {
      unbegun = k.unbegun;
      states_bound = k.states_bound;
      states = k.states;
      inputs_bound = omega (arith, capacity, length-append q.inputs (i ∷ []));
      inputs = All-push IsInputVariable q.inputs i k.inputs is;
      noises_bound = k.noises_bound;
      noises = k.noises;
      names = subst (All IsName) (sym names) (All-push IsName (names_in q) i.name k.names is.name);
      names_differ = subst (AllPairs (λ a b. a ≢ b)) (sym names) (differ (names_in q) i.name k.names_differ fits.4);
      equations_bound = k.equations_bound;
      equations = All-same (IsEquation (length (names_in (with_statement q (Input i))))) q.equations [] fits.2 (All-nil (IsEquation (length (names_in (with_statement q (Input i))))));
      tables = k.tables;
      targets_bound = k.targets_bound;
      targets = k.targets;
      obstacles_bound = k.obstacles_bound;
      obstacles = k.obstacles;
      placed = k.placed;
      kept_aims_nowhere = k.kept_aims_nowhere;
      closed = k.closed;
    }

rules_noise : (q : PartialPlant) (w : NoiseVariable) → KeepsRules q → IsNoiseVariable w → FitsAfter q (Noise w) → KeepsRules (with_statement q (Noise w))
rules_noise q w k is fits =
    let names : names_in (with_statement q (Noise w)) ≡ names_in q ++ w.name ∷ [] = rw (map-append (λ (t : NoiseVariable). t.name) q.noises (w ∷ [])) (simp append_assoc) in
    let capacity : length q.noises < 6 = fits.2 in
    record {
      unbegun = k.unbegun;
      states_bound = k.states_bound;
      states = k.states;
      inputs_bound = k.inputs_bound;
      inputs = k.inputs;
      noises_bound = omega (arith, capacity, length-append q.noises (w ∷ []));
      noises = All-push IsNoiseVariable q.noises w k.noises is;
      names = subst (All IsName) (sym names) (All-push IsName (names_in q) w.name k.names is.name);
      names_differ = subst (AllPairs (λ a b. a ≢ b)) (sym names) (differ (names_in q) w.name k.names_differ fits.3);
      equations_bound = k.equations_bound;
      equations = All-same (IsEquation (length (names_in (with_statement q (Noise w))))) q.equations [] fits.1 (All-nil (IsEquation (length (names_in (with_statement q (Noise w))))));
      tables = k.tables;
      targets_bound = k.targets_bound;
      targets = k.targets;
      obstacles_bound = k.obstacles_bound;
      obstacles = k.obstacles;
      placed = k.placed;
      kept_aims_nowhere = k.kept_aims_nowhere;
      closed = k.closed;
    }

module _ (q : PartialPlant) (k : KeepsRules q) where
  -- other equations, boxes and goal after the same variables
  same_variables : (version : Option PlantVersion) (equations : List Expression) (targets obstacles : List StateBox) (goal : Option GoalKind) (ended : Bool)
      → let r = record q { version = version; equations = equations; targets = targets; obstacles = obstacles; goal = goal; ended = ended } in
      (version ≡ None → q.states ≡ []) → (version ≡ Some One → All HasNoLut equations) → length equations ≤ length q.states → All (IsEquation (length (names_in q))) equations → length targets ≤ 64 → All (IsStateBox (length q.states)) targets → length obstacles ≤ 64 → All (IsStateBox (length q.states)) obstacles
      → HasEquations r ⊎ IsAimless r → (goal ≡ Some Keep → targets ≡ []) → (ended ≡ true → (goal ≢ None) × (version ≢ None)) → KeepsRules r
  same_variables version equations targets obstacles goal ended unbegun tables equations_bound equations_are targets_bound targets_are obstacles_bound obstacles_are placed kept_aims_nowhere closed = record {
    unbegun = unbegun;
    tables = tables;
    states_bound = k.states_bound;
    states = k.states;
    inputs_bound = k.inputs_bound;
    inputs = k.inputs;
    noises_bound = k.noises_bound;
    noises = k.noises;
    names = k.names;
    names_differ = k.names_differ;
    equations_bound = equations_bound;
    equations = equations_are;
    targets_bound = targets_bound;
    targets = targets_are;
    obstacles_bound = obstacles_bound;
    obstacles = obstacles_are;
    placed = placed;
    kept_aims_nowhere = kept_aims_nowhere;
    closed = closed;
  }

  rules_version : (v : PlantVersion) → FitsAfter q (Version v) → KeepsRules (with_statement q (Version v))
  rules_version v fits =
      let states : q.states ≡ [] = k.unbegun fits in
      let none : q.equations ≡ [] = nil_from_length q.equations (let b = k.equations_bound in let n : length q.states ≡ 0 = ap length states in omega (arith, b, n)) in
      same_variables (Some v) q.equations q.targets q.obstacles q.goal q.ended (λ e. absurd cc) (λ _. All-same HasNoLut q.equations [] none (All-nil HasNoLut))
      k.equations_bound k.equations k.targets_bound k.targets k.obstacles_bound k.obstacles k.placed k.kept_aims_nowhere (λ ended. ((k.closed ended).0, λ e. cc))

  rules_next : (name : List ℕ) (e : Expression) → IsEquation (length (names_in q)) e → FitsAfter q (Next name e) → KeepsRules (with_statement q (Next name e))
  rules_next name e is fits =
      let capacity : length q.equations < length q.states = fits.0 in
      same_variables q.version (q.equations ++ e ∷ []) q.targets q.obstacles q.goal q.ended k.unbegun (λ v. All-push HasNoLut q.equations e (k.tables v) (fits.2 v))
      (omega (arith, capacity, length-append q.equations (e ∷ []))) (All-push (IsEquation (length (names_in q))) q.equations e k.equations is) k.targets_bound k.targets k.obstacles_bound k.obstacles
      (inr (aimless q k (λ has. omega (arith, capacity, has.1)))) k.kept_aims_nowhere k.closed

  rules_target : (b : StateBox) → IsStateBox (length q.states) b → FitsAfter q (Target b) → KeepsRules (with_statement q (Target b))
  rules_target b is fits =
      let capacity : length q.targets < 64 = fits.2 in
      same_variables q.version q.equations (q.targets ++ b ∷ []) q.obstacles q.goal q.ended k.unbegun k.tables
      k.equations_bound k.equations (omega (arith, capacity, length-append q.targets (b ∷ []))) (All-push (IsStateBox (length q.states)) q.targets b k.targets is) k.obstacles_bound k.obstacles
      (inl fits.0) (λ e. (let g : q.goal ≡ None = fits.1 in cc)) k.closed

  rules_obstacle : (b : StateBox) → IsStateBox (length q.states) b → FitsAfter q (Obstacle b) → KeepsRules (with_statement q (Obstacle b))
  rules_obstacle b is fits =
      let capacity : length q.obstacles < 64 = fits.2 in
      same_variables q.version q.equations q.targets (q.obstacles ++ b ∷ []) q.goal q.ended k.unbegun k.tables
      k.equations_bound k.equations k.targets_bound k.targets (omega (arith, capacity, length-append q.obstacles (b ∷ []))) (All-push (IsStateBox (length q.states)) q.obstacles b k.obstacles is)
      (inl fits.0) k.kept_aims_nowhere k.closed

  rules_goal : (kind : GoalKind) → FitsAfter q (Goal kind) → KeepsRules (with_statement q (Goal kind))
  rules_goal kind fits =
      same_variables q.version q.equations q.targets q.obstacles (Some kind) q.ended k.unbegun k.tables
      k.equations_bound k.equations k.targets_bound k.targets k.obstacles_bound k.obstacles
      (inl fits.0) (λ e. (let is : kind ≡ Keep = (let same : kind ≡ Keep = cc in same) in fits.2 is)) (λ ended. (λ e. cc, (k.closed ended).1))

  rules_end : FitsAfter q End → KeepsRules (with_statement q End)
  rules_end fits =
      same_variables q.version q.equations q.targets q.obstacles q.goal true k.unbegun k.tables
      k.equations_bound k.equations k.targets_bound k.targets k.obstacles_bound k.obstacles
      k.placed k.kept_aims_nowhere (λ _. (
        fits.0,
        λ none. (
            let states : length q.states ≡ 0 = ap length (k.unbegun none) in
            elim k.placed [
              | inl has ↦ omega (arith, states, has.0)
              | inr aims ↦ fits.0 aims.2
            ]),
      ))

-- an expression that tokens spell is an equation
pub equation_spelled : (names : List (List ℕ)) (tokens : List (List ℕ)) (e : Expression) → AreTokensOf names tokens e → IsEquation (length names) e
equation_spelled names tokens e t =
    record { literals = subst (HasLiterals (length names)) t.means (tree_literals (length names) t.syntax_tree t.grammatical); nodes = t.nodes; depth = t.depth }

pub rules_extended : (q : PartialPlant) (words : List (List ℕ)) (s : Statement) → KeepsRules q → States (names_in q) (length q.states) words s → FitsAfter q s → KeepsRules (with_statement q s)
rules_extended q words (Version v) k says fits = rules_version q k v fits
rules_extended q words (State s) k says fits = rules_state q s k says.1 fits
rules_extended q words (Input i) k says fits = rules_input q i k says.1 fits
rules_extended q words (Noise w) k says fits = rules_noise q w k says.1 fits
rules_extended q words (Next name e) k says fits = rules_next q k name e (equation_spelled (names_in q) (flat_map tokens_of says.0) e says.2) fits
rules_extended q words (Target b) k says fits = rules_target q k b says.1 fits
rules_extended q words (Obstacle b) k says fits = rules_obstacle q k b says.1 fits
rules_extended q words (Goal kind) k says fits = rules_goal q k kind fits
rules_extended q words End k says fits = rules_end q k fits

pub rules_after : (q : PartialPlant) (line : List ℕ) (r : PartialPlant) → KeepsRules q → Extends q line r → KeepsRules r
rules_after q line r k e =
    elim e [
      | inl over ↦ subst KeepsRules (sym over.1) k
      | inr stated ↦ subst KeepsRules (sym stated.leads_to) (rules_extended q (words_of line) stated.statement k stated.states stated.fits)
    ]

pub rules_stated : (q : PartialPlant) (words : List (List ℕ)) (s : Statement) (r : PartialPlant) → KeepsRules q → States (names_in q) (length q.states) words s → FitsAfter q s → r ≡ with_statement q s → KeepsRules r
rules_stated q words s r k says fits is = subst KeepsRules (sym is) (rules_extended q words s k says fits)
