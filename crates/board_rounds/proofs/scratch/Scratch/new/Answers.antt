use Rattle.std.proofs.Common.{◌≡◌, ℕ, ◌++◌, List, take, drop, sym, ◌∙◌, ap₂, arith}
use Rattle.std.proofs.Math.Seq.{take-append_seam, drop-append_seam}
use Rattle.cell_counters.specs.Words.{numbers_before_log}
use Rattle.cell_counters.proofs.Words.{numbers_back}
use Rattle.game_core.specs.Game.{Game, IsGraph}
use Rattle.board_rounds.specs.inside.FirstWords.{first_numbers, first_words}
use Rattle.board_rounds.proofs.Boards.{numbers_many}
use Rattle.board_rounds.proofs.Here.{here}
use Rattle.board_rounds.proofs.scratch.Scratch.new.Goals as goal

-- the first of all words are the numbers
numbers_first : (g : Game) (number : ℕ → ℕ) (words : List ℕ) (cells : ℕ) → words ≡ first_words g number → cells ≡ g.cells → numbers_before_log words cells ≡ first_numbers g number
numbers_first g number words cells all same = ap₂ (λ (l : List ℕ) (n : ℕ). numbers_before_log l n) all same ∙ numbers_back (first_numbers g number) g.cells

pub of_words-requires-clause-fits : goal.of_words-requires-clause-fits
of_words-requires-clause-fits g c =
    let game = g.G.Forward.game c.args.g.now in
    let number = g.S.Start.number game in
    let a : IsGraph game = (g.met.G.Forward g.world.𝓛 g.world.𝓜 g.world.𝓡 (here g.world)).lawful c.args.g.now in
    let words = c.as_slice.result.now in
    let numbers = numbers_first game number words c.cells-cells.result (c.as_slice.ensures ∙ c.in_ok-numbers.ensures) c.cells-cells.ensures in
    let many = numbers_many game a number (numbers_before_log words c.cells-cells.result) numbers in
    omega (arith, c.cells-cells.ensures, a.pairs_bound, a.cells_bound)

pub returns : goal.returns
returns g c =
    let game = g.G.Forward.game c.args.g.now in
    let counters : List ℕ = g.S.Start.counters game in
    let words : List ℕ = g.S.Start.words game in
    let numbers : numbers_before_log c.as_slice.result.now c.cells-cells.result ≡ counters ++ words =
    numbers_first game (g.S.Start.number game) c.as_slice.result.now c.cells-cells.result (c.as_slice.ensures ∙ c.in_ok-numbers.ensures) c.cells-cells.ensures ∙ sym ((g.met.S.Start g.world.𝓛 g.world.𝓜 g.world.𝓡 (here g.world)).joined game) in
    let count = c.count_counters-counters.ensures in
    record {
      counters = c.in_ok-board.ensures.starts ∙ ap₂ (λ (n : ℕ) (l : List ℕ). take n l) count numbers ∙ take-append_seam counters words;
      words = c.in_ok-board.ensures.least ∙ ap₂ (λ (n : ℕ) (l : List ℕ). drop n l) count numbers ∙ drop-append_seam counters words;
      log = c.in_ok-board.ensures.slots ∙ c.cells-cells.ensures;
    }
