use Rattle.std.proofs.Common.{take, map}
use Rattle.command_line.specs.inside.ArgumentSpelling.{Spell}
use Rattle.command_line.proofs.command.parse_start.Given as goal

-- the numbers so far
abbrev pub invariant-loop-word : goal.invariant-loop-word
invariant-loop-word l = Spell (map (λ word. word.now) (take l.word-index l.arguments)) l.start
