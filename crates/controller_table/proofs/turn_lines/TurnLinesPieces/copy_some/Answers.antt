use Rattle.std.proofs.Common.{◌≡◌, ◌≤◌, ◌++◌, length, take, drop, ℕ, List, sym, ap, subst, ◌∙◌, arith}
use Rattle.std.proofs.lemmas.Bool.{eqb-true}
use Rattle.std.specs.List.{concat}
use Rattle.row_runs.specs.declared.run.TableVersion.TheVariants.{Second}
use Rattle.row_reading.specs.RowsTexts.{lines_by}
use Rattle.controller_table.specs.inside.Left.{left_of}
use Rattle.controller_table.proofs.TurnTexts.{begun, copied_within, taken, dropped}
use Rattle.controller_table.proofs.turn_lines.TurnLinesPieces.copy_some.Goals.{then-is_empty+else-count-gt0+else-self, else-is_empty}
use Rattle.controller_table.proofs.turn_lines.TurnLinesPieces.copy_some.Goals as goal

-- what is left after the line, once there is one
after : goal.After-advance → List ℕ
after c = left_of c.if-is_empty.self-inside.runs ++ concat (lines_by c.if-is_empty.self-inside.head Second c.if-is_empty.self-inside.format c.if-is_empty.self-inside.turn (drop c.if-is_empty.self-inside.turn c.if-is_empty.self-inside.turns.now))

in_pieces : (c : goal.After-advance) → c.args.self.now ≡ c.if-is_empty.self-inside.line ++ after c
unfolding after
in_pieces c = elim c.if-is_empty.branch [
  | then-is_empty+else-count-gt0+else-self w ↦ (
      let empty : length c.as_slice.result.now ≡ 0 = eqb-true (length c.as_slice.result.now) 0 (sym c.is_empty.ensures ∙ w.if-is_empty.true) in
      let line = ap (λ (x : List ℕ). length x) c.as_slice.ensures in
      let copied = w.if-count-gt0.false in
      let more = w.if-self.false in
      let now = begun c.self.inside.head c.self.inside.format c.self.inside.turns.now c.self.inside.turn w.count_runs.result _ c.args.self.now c.self.inside.line (left_of c.self.inside.runs) w.write_head.new.line w.new.result c.self.view_is (omega (arith, empty, line)) (w.copy_runs-count.ensures.some (omega (arith, copied)))
      (omega (arith, more, c.self.invariant.0)) w.write_head.ensures.text w.count_runs.ensures.count w.new.ensures in
      subst (λ s. c.args.self.now ≡ s.line ++ (left_of s.runs ++ concat (lines_by s.head Second s.format s.turn (drop s.turn s.turns.now)))) (sym w.self-inside-is) now)
  | else-is_empty w ↦ subst (λ s. c.args.self.now ≡ s.line ++ (left_of s.runs ++ concat (lines_by s.head Second s.format s.turn (drop s.turn s.turns.now)))) (sym w.self-inside-is) (sym c.self.view_is)
]

within : (c : goal.After-advance) → c.copy_prefix-count.result ≤ length c.if-is_empty.self-inside.line
within c = let count = c.copy_prefix-count.ensures.count in let line = ap (λ (x : List ℕ). length x) c.as_slice-2.ensures in omega (arith, count, line)

-- the buffer is as it was
same_buffer : (c : goal.After-advance) → c.if-is_empty.buf ≡ c.args.buf.now
same_buffer c = elim c.if-is_empty.branch [
  | then-is_empty+else-count-gt0+else-self w ↦ (
      let copied = w.if-count-gt0.false in
      let none : w.copy_runs-count.result ≡ 0 = omega (arith, copied) in
      w.buf-is ∙ w.copy_runs-count.ensures.copied ∙ ap (λ (n : ℕ). take n (left_of c.self.inside.runs) ++ drop n c.args.buf.now) none)
  | else-is_empty w ↦ w.buf-is
]

pub returns-clause-within : goal.returns-clause-within
returns-clause-within c = copied_within c.args.self.now c.if-is_empty.self-inside.line (after c) c.copy_prefix-count.result (in_pieces c) (within c)

pub returns-clause-copied : goal.returns-clause-copied
returns-clause-copied c =
    c.copy_prefix-count.ensures.copied
    ∙ ap (λ (x : List ℕ). take c.copy_prefix-count.result x ++ drop c.copy_prefix-count.result c.if-is_empty.buf) c.as_slice-2.ensures
    ∙ ap (λ (x : List ℕ). x ++ drop c.copy_prefix-count.result c.if-is_empty.buf) (taken c.args.self.now c.if-is_empty.self-inside.line (after c) c.copy_prefix-count.result (in_pieces c) (within c))
    ∙ ap (λ (x : List ℕ). take c.copy_prefix-count.result c.args.self.now ++ drop c.copy_prefix-count.result x) (same_buffer c)

pub returns-clause-rest : goal.returns-clause-rest
unfolding after
returns-clause-rest c =
    ap (λ (x : List ℕ). x ++ after c) c.advance.ensures ∙ dropped c.args.self.now c.if-is_empty.self-inside.line (after c) c.copy_prefix-count.result (in_pieces c) (within c)
