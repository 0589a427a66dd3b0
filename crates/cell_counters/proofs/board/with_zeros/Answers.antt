use Rattle.std.proofs.Common.{◌≡◌, ℕ, ◌+◌, ◌-◌, List, ◌++◌, length, replicate, take, vec_len, ap, ◌∙◌, arith}
use Rattle.std.proofs.lemmas.List.{take_all}
use Rattle.cell_counters.proofs.board.with_zeros.Goals as goal

-- a list that is made longer
longer : (n more len : ℕ) (items : List ℕ) → len ≡ length items → n ≡ len + more → take n items ++ replicate (n - len) 0 ≡ items ++ replicate more 0
longer n more len items counted is = ap (λ l. l ++ replicate (n - len) 0) (take_all n items (omega arith)) ∙ ap (λ k. items ++ replicate k 0) (omega arith)

pub returns : goal.returns
returns c = c.in_ok-resize.ensures.items ∙ longer (c.len.result + c.args.zeros) c.args.zeros (vec_len c.args.words) c.args.words.items c.args.words.ok.0 (omega arith)
