-- Bytes that spell a plant have one table, one text of reach and stay, and one of a patrol.
use Rattle.std.proofs.Common.{◌≡◌, ℕ, ◌-◌, ◌<◌, ◌≤◌, List, [], length, Option, Some, None, refl, sym, ap, ap₂, subst, ◌∙◌, arith, ext_get_or, le_antisymm}
use Rattle.game_core.specs.declared.game.Row.{Row}
use Rattle.game_core.specs.Game.{Game}
use Rattle.game_core.specs.Strategy.{IsRankTo}
use Rattle.game_core.specs.Solution.{row_of, LeadsWithinTo}
use Rattle.plant_record.specs.Description.{Description}
use Rattle.plant_record.specs.Plants.{IsPlant}
use Rattle.plant_game.proofs.OneGame.{one_game}
use Rattle.plant_game.proofs.OneSolution.{one_plant_solution}
use Rattle.controller_table.specs.TableText.{written_version}
use Rattle.controller_table.specs.KindTexts.{table_text}
use Rattle.temporal_games.specs.Held.{IsHeld}
use Rattle.temporal_games.specs.Stay.{IsStayedBy, IsStayRow, IsStaySolution}
use Rattle.temporal_texts.specs.StayText.{stay_text}
use Rattle.turn_rows.specs.Targets.{IsInTarget}
use Rattle.temporal_texts.specs.PatrolText.{patrol_text}
use Rattle.turn_rows.specs.Rows.{rows_for}
use Rattle.temporal_games.specs.Patrol.{IsReachedLaterBy, IsPatrolRow, IsPatrol}
use Rattle.synth_run.specs.Headline.{IsTableOf, IsStayTableOf, IsPatrolTableOf}
use Rattle.synth_run.specs.Laws.{OneTableForBytes, OneStayTextForBytes, OnePatrolTextForBytes}
use Rattle.command_outcomes.specs.IsOutcomeFor.{IsAccepted, IsSolvable, IsPatrollable}
use Rattle.command_outcomes.proofs.Below.{one_plant_per_text}

abbrev some_row : ℕ → ℕ → Option Row
some_row k u = Some (record { rank = k; input = u })

-- bytes that spell a plant have one text, if the plant has
one_by_plant : (Ok : Description → Type 0) (IsOf : Description → List ℕ → Type 0) → ((p : Description) (a b : List ℕ) → IsPlant p → IsOf p a → IsOf p b → a ≡ b)
    → (bytes a b : List ℕ) → (p : Description) × IsAccepted bytes p × Ok p × IsOf p a → (p : Description) × IsAccepted bytes p × Ok p × IsOf p b → a ≡ b
one_by_plant Ok IsOf one bytes a b first second =
    let same = one_plant_per_text bytes first.0 second.0 first.1.spells second.1.spells in
    one second.0 a b second.1.limits.plant (subst (λ (p : Description). IsOf p a) same first.3) second.3

-- ---- tables

one_of_plant : (p : Description) (a b : List ℕ) → IsPlant p → IsTableOf p a → IsTableOf p b → a ≡ b
one_of_plant p a b plant table other = table.text_is ∙ ap (table_text written_version p) (one_plant_solution p table.rows other.rows plant table.solution other.solution) ∙ sym other.text_is

pub one_table : OneTableForBytes
one_table = one_by_plant IsSolvable IsTableOf one_of_plant

-- ---- reach and stay

same_rank : (End : ℕ → Type 0) (g : Game) (c j k : ℕ) → IsRankTo End g c j → IsRankTo End g c k → j ≡ k
same_rank End g c j k a b =
    let below : j ≤ k = omega (arith, a.least b.reached.0 b.reached.1, b.reached.2) in
    let above : k ≤ j = omega (arith, b.least a.reached.0 a.reached.1, a.reached.2) in
    le_antisymm below above

same_stay : (g : Game) (c : ℕ) (p q : Row) → IsStayedBy g c p → IsStayedBy g c q → Some p ≡ Some q
same_stay g c p q a b =
    let ranks : p.rank ≡ q.rank = same_rank (IsHeld g) g c p.rank q.rank a.rank b.rank in
    let below : p.input ≤ q.input = a.least q.input (subst (λ (k : ℕ). LeadsWithinTo (IsHeld g) g c q.input (k - 1)) (sym ranks) b.leads) in
    let above : q.input ≤ p.input = b.least p.input (subst (λ (k : ℕ). LeadsWithinTo (IsHeld g) g c p.input (k - 1)) ranks a.leads) in
    ap₂ some_row ranks (le_antisymm below above)

same_stay_row : (g : Game) (c : ℕ) (a b : Option Row) → IsStayRow g c a → IsStayRow g c b → a ≡ b
same_stay_row g c None None h k = refl
same_stay_row g c None (Some row) h k = absurd (h k.rank.reached.0 k.rank.reached.1)
same_stay_row g c (Some row) None h k = absurd (k h.rank.reached.0 h.rank.reached.1)
same_stay_row g c (Some p) (Some q) h k = same_stay g c p q h k

one_stay_solution : (g : Game) (rows others : List (Option Row)) → IsStaySolution g rows → IsStaySolution g others → rows ≡ others
one_stay_solution g rows others a b =
    let la = a.one_each in
    let lb = b.one_each in
    ext_get_or None rows others (omega arith) (λ c lt. same_stay_row g c (row_of rows c) (row_of others c) (a.each c (omega arith)) (b.each c (omega arith)))

one_stay_of_plant : (p : Description) (a b : List ℕ) → IsPlant p → IsStayTableOf p a → IsStayTableOf p b → a ≡ b
one_stay_of_plant p a b plant table other =
    let game : other.game ≡ table.game = one_game p other.game table.game plant other.abstraction table.abstraction in
    let rows : table.rows ≡ other.rows = one_stay_solution table.game table.rows other.rows table.solution (subst (λ (g : Game). IsStaySolution g other.rows) game other.solution) in
    table.table.text ∙ ap (stay_text p) rows ∙ sym other.table.text

pub one_stay_text : OneStayTextForBytes
one_stay_text = one_by_plant IsSolvable IsStayTableOf one_stay_of_plant

-- ---- patrol

same_later_reach : (End : ℕ → Type 0) (g : Game) (c : ℕ) (p q : Row) → IsReachedLaterBy End g c p → IsReachedLaterBy End g c q → Some p ≡ Some q
same_later_reach End g c p q a b =
    let below : p.rank ≤ q.rank = omega (arith, a.least q.input b.reached.0 b.reached.1, b.reached.2) in
    let above : q.rank ≤ p.rank = omega (arith, b.least p.input a.reached.0 a.reached.1, a.reached.2) in
    let ranks : p.rank ≡ q.rank = le_antisymm below above in
    let no_later : p.input ≤ q.input = a.first q.input b.reached.0 b.reached.1 (b.reached.2 ∙ sym ranks) in
    let no_earlier : q.input ≤ p.input = b.first p.input a.reached.0 a.reached.1 (a.reached.2 ∙ ranks) in
    ap₂ some_row ranks (le_antisymm no_later no_earlier)

same_patrol_row : (g : Game) (In : ℕ → ℕ → Type 0) (turns j c : ℕ) (a b : Option Row) → IsPatrolRow g In turns j c a → IsPatrolRow g In turns j c b → a ≡ b
same_patrol_row g In turns j c None None h k = refl
same_patrol_row g In turns j c None (Some row) h k = absurd (h k.0)
same_patrol_row g In turns j c (Some row) None h k = absurd (k h.0)
same_patrol_row g In turns j c (Some p) (Some q) h k = same_later_reach _ g c p q h.1 k.1

one_patrol : (g : Game) (In : ℕ → ℕ → Type 0) (turns : ℕ) (rows others : List (List (Option Row))) → IsPatrol g In turns rows → IsPatrol g In turns others → rows ≡ others
one_patrol g In turns rows others a b =
    let la = a.one_list_each in
    let lb = b.one_list_each in
    ext_get_or [] rows others (omega arith)
    (λ j lt. one_turn j (omega arith))
  where
    one_turn : (j : ℕ) → j < turns → rows_for rows j ≡ rows_for others j
    one_turn j before =
        let la = a.one_row_each j before in
        let lb = b.one_row_each j before in
        ext_get_or None (rows_for rows j) (rows_for others j) (omega arith)
        (λ c lt. same_patrol_row g In turns j c (row_of (rows_for rows j) c) (row_of (rows_for others j) c) (a.each j c before (omega arith)) (b.each j c before (omega arith)))

one_patrol_of_plant : (p : Description) (a b : List ℕ) → IsPlant p → IsPatrolTableOf p a → IsPatrolTableOf p b → a ≡ b
one_patrol_of_plant p a b plant table other =
    let game : other.game ≡ table.game = one_game p other.game table.game plant other.abstraction table.abstraction in
    let rows : table.rows ≡ other.rows =
    one_patrol table.game (IsInTarget p) (length p.targets) table.rows other.rows table.solution (subst (λ (g : Game). IsPatrol g (IsInTarget p) (length p.targets) other.rows) game other.solution)
    in
    table.table.text ∙ ap (patrol_text p) rows ∙ sym other.table.text

pub one_patrol_text : OnePatrolTextForBytes
one_patrol_text = one_by_plant IsPatrollable IsPatrolTableOf one_patrol_of_plant
