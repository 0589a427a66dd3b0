-- A text is within the limit on its bytes.
use Rattle.std.proofs.Common.{◌≡◌, ℕ, suc, ◌+◌, ◌-◌, ◌*◌, ◌^◌, ◌≤◌, List, [], ◌∷◌, ◌++◌, length, length-append, Option, ap, subst, append-nil, arith}
use Rattle.std.specs.Prelude.{codes}
use Rattle.std.specs.List.{AllByRecursion, concat}
use Rattle.std.specs.Fmt.{decimal}
use Rattle.std.proofs.lemmas.List.Elements.{recursion_from_All}
use Rattle.std.proofs.lemmas.List.Folds.{concat-append}
use Rattle.game_core.specs.declared.game.Row.{Row}
use Rattle.grid_quantiser.specs.Axes.{cells_of}
use Rattle.plant_record.specs.Description.{Description, axes_of}
use Rattle.plant_record.specs.Limits.{IsWithinLimits}
use Rattle.plant_writing.specs.CanonicalText.{text_of}
use Rattle.row_runs.specs.declared.run.TableVersion.TheVariants.{First, Second}
use Rattle.row_runs.specs.RunText.{end_line}
use Rattle.row_reading.specs.declared.row_rules.TurnHead.{TurnHead}
use Rattle.row_reading.specs.declared.row_rules.TurnHead.TheVariants.{Count, Numbered}
use Rattle.row_reading.specs.declared.row_rules.TurnRules.{TurnRules}
use Rattle.row_reading.specs.RowsTexts.{row_lines, head_line, lines_from, turn_lines, AreRowsWithin}
use Rattle.controller_table.specs.declared.text_kind.TextKind.{TextKind}
use Rattle.controller_table.specs.declared.text_kind.TextKind.TheVariants.{Table, Stay, Patrol}
use Rattle.controller_table.specs.TextKinds.{first_line, turn_rules, HasFewTurnsFor, most_bytes}
use Rattle.controller_table.specs.KindTexts.{IsTextOf}
use Rattle.controller_table.specs.Laws.{TablesAreShort}
use Rattle.row_reading.proofs.RowsRead.{few_lines}
use Rattle.controller_table.proofs.EachKind.{short_rows, few_turns}
use Rattle.controller_table.proofs.PlantLength.{line_length, plant_length}
use Rattle.controller_table.proofs.RowLengths.{AreShort, seven, rows_length}

-- ---- the lines of turns

head_length : (head : TurnHead) (j n : ℕ) → j ≤ 2 ^ 20 → n ≤ 2 ^ 20 → length (head_line head j n) ≤ 33
head_length Count j n hj hn = let l = line_length 7 (codes "rows" ∷ decimal n ∷ []) (omega arith, (seven n hn, tt)) in omega (arith, l)
head_length Numbered j n hj hn = let l = line_length 7 (codes "turn" ∷ decimal j ∷ codes "rows" ∷ decimal n ∷ []) (omega arith, (seven j hj, (omega arith, (seven n hn, tt)))) in omega (arith, l)

module _ (rules : TurnRules) (short : AreShort rules.rows) where
  abbrev own : List (Option Row) → List (List ℕ)
  own r = row_lines rules.rows.version rules.rows.format r

  abbrev each_turn : ℕ
  each_turn = 33 + rules.rows.cells * 29

  turns_length : (j : ℕ) (turns : List (List (Option Row))) → j + length turns ≤ 2 ^ 20 → AllByRecursion (AreRowsWithin rules.rows) turns → length (concat (lines_from rules j turns)) ≤ length turns * each_turn
  turns_length j [] few are = omega arith
  turns_length j (r ∷ turns) few are =
      let line = head_length rules.head j (length (own r)) (omega (arith, few)) (omega (arith, few_lines rules.rows r are.0, short.cells)) in
      let long = rows_length rules.rows short r are.0 in
      let more = turns_length (suc j) turns (omega (arith, few)) are.1 in
      let this : length (concat (lines_from rules j (r ∷ turns))) ≤ each_turn + length turns * each_turn = omega (
        arith,
        line,
        long,
        more,
        length-append (head_line rules.head j (length (own r))) (concat (own r ++ lines_from rules (suc j) turns)),
        ap length (concat-append (own r) (lines_from rules (suc j) turns)),
        length-append (concat (own r)) (concat (lines_from rules (suc j) turns)),
      ) in
      omega (arith, this)

-- ---- each kind

first_length : (k : TextKind) → length (first_line k) ≤ 9
first_length (Table First) = omega arith
first_length (Table Second) = omega arith
first_length Stay = omega arith
first_length Patrol = omega arith

one_turn : (cells : ℕ) → cells ≤ 2 ^ 20 → 1 * (33 + cells * 29) + 9000000 ≤ 67108864
one_turn cells le = omega (arith, le)

-- so many turns of rows, with few enough cells over all of them
all_turns : (turns cells : ℕ) → turns ≤ 64 → cells * turns ≤ 2 ^ 22 → turns * (33 + cells * 29) + 9000000 ≤ 134217728
all_turns turns cells few le = omega (arith, few, le, spread)
  where
    spread : turns * (33 + cells * 29) ≡ turns * 33 + (cells * turns) * 29
    spread = grind arith

enough : (k : TextKind) (p : Description) → IsWithinLimits p → HasFewTurnsFor k p → (turn_rules k p).turns * (33 + (turn_rules k p).rows.cells * 29) + 9000000 ≤ most_bytes k
enough (Table v) p within few = one_turn (cells_of (axes_of p)) within.cells
enough Stay p within few = one_turn (cells_of (axes_of p)) within.cells
enough Patrol p within few = all_turns (length p.targets) (cells_of (axes_of p)) within.plant.targets_bound few

pub texts_are_short : (k : TextKind) (bytes : List ℕ) (p : Description) (turns : List (List (Option Row))) → IsTextOf k bytes p turns → length bytes ≤ most_bytes k
texts_are_short k bytes p turns t =
    let rules : TurnRules = turn_rules k p in
    let size = t.within.one_list_each in
    let plant = plant_length p t.limits.plant in
    let short = short_rows k p t.limits in
    let most = few_turns k p t.limits in
    let long = turns_length rules short 0 turns (omega (arith, size, most)) (recursion_from_All (AreRowsWithin rules.rows) turns t.within.each) in
    let all = subst (λ (n : ℕ). length (concat (lines_from rules 0 turns)) ≤ n * (33 + rules.rows.cells * 29)) size long in
    let room = enough k p t.limits t.few in
    let after : List ℕ = concat (turn_lines rules turns) in
    omega (
      arith,
      plant,
      all,
      room,
      first_length k,
      ap length t.text,
      length-append (first_line k ++ text_of p) after,
      length-append (first_line k) (text_of p),
      ap length (concat-append (lines_from rules 0 turns) (end_line ∷ [])),
      length-append (concat (lines_from rules 0 turns)) (concat (end_line ∷ [])),
      ap length (append-nil end_line),
    )

pub tables_are_short : TablesAreShort
tables_are_short bytes p rows t = texts_are_short (Table t.0) bytes p (rows ∷ []) t.1
