use Rattle.std.proofs.Common.{◌≡◌, ℕ, ◌+◌, ◌<◌, ◌^◌, List, [], ◌++◌, length, replicate, All, refl, ap, sym, ◌∙◌, subst, arith, length-append}
use Rattle.std.proofs.lemmas.List.{get_or_append_left}
use Rattle.std.proofs.lemmas.List.Elements.{All-from_get_or}
use Rattle.atomic_table.specs.Table.{opening}
use Rattle.cell_counters.specs.Words.{numbers_before_log}
use Rattle.cell_counters.specs.declared.rule.Beginning.{Beginning}
use Rattle.cell_counters.specs.inside.BoardProtocol.{Keeps, IsSized, setup_of, root_of}
use Rattle.cell_counters.proofs.Roots.{begins}
use Rattle.cell_counters.proofs.Words.{words_split}
use Rattle.cell_counters.proofs.board.Board.of_words.Goals as goal

-- what holds of each of a list's numbers holds of those of its front
small_front : (xs ys : List ℕ) → All (λ n. n < 2 ^ 64) (xs ++ ys) → All (λ n. n < 2 ^ 64) xs
small_front xs ys small k d lt = subst (λ n. n < 2 ^ 64) (get_or_append_left xs ys d k lt) (small k d (omega (arith, length-append xs ys)))

pub of_words-requires : goal.of_words-requires
of_words-requires c =
    let words = c.args.words.now in
    let slots = c.args.slots in
    let numbers = c.of.result.items in
    let b : Beginning = record { words = c.of.result; counters = c.args.counters; slots = slots } in
    let same : numbers ≡ numbers_before_log words slots = c.of.ensures in
    let all : words ≡ numbers ++ replicate (1 + slots) 0 = words_split words slots c.requires.log ∙ ap (λ l. l ++ replicate (1 + slots) 0) (sym same) in
    let tail = length numbers in
    let sized : IsSized b c.args.counters tail slots (tail + 1 + slots) =
    record { split = refl; within = omega (arith, ap length same, c.requires.counters); both = refl; log = refl; all = refl; few = omega (arith, ap length same, c.requires.fits) } in
    let small : All (λ n. n < 2 ^ 64) numbers = small_front numbers (replicate (1 + slots) 0)
    (subst (All (λ n. n < 2 ^ 64)) all (All-from_get_or (λ n. n < 2 ^ 64) words 0 (λ i lt. omega (arith, c.type_inv.words i)))) in
    subst (λ l. Keeps (setup_of b) (opening {S = Unit {0}} l [] (root_of b))) (sym all) (begins b c.args.counters tail slots (tail + 1 + slots) sized small)
