use Rattle.std.proofs.Common.{◌≡◌, ◌≤◌, ◌++◌, length, map}
use Rattle.std.specs.Fmt.{signed_decimal}
use Rattle.std.specs.List.{All}
use Rattle.line_words.specs.Numbers.{IsLiteral}
use Rattle.line_words.specs.Words.{words_of}
use Rattle.statement_words.proofs.declarations.parse_values.Given as goal

abbrev pub invariant-loop-word : goal.invariant-loop-word
invariant-loop-word l = record {
  read : words_of l.bytes ≡ map signed_decimal l.numbers.items ++ words_of l.rest;
  each : All IsLiteral l.numbers.items;
  bound : length l.numbers.items ≤ 64;
}

abbrev pub decreases-loop-word : goal.decreases-loop-word
decreases-loop-word l = length l.rest
