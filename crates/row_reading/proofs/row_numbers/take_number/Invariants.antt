use Rattle.std.proofs.Common.{◌≡◌, ◌^◌, ◌<◌, ◌++◌, length}
use Rattle.std.specs.Fmt.{decimal}
use Rattle.row_reading.proofs.row_numbers.take_number.Given as goal

abbrev pub invariant-loop-next : goal.invariant-loop-next
invariant-loop-next l = record { small : l.value < 2 ^ 32; so_far : l.fn.bytes ≡ decimal l.value ++ l.rest }

abbrev pub decreases-loop-next : goal.decreases-loop-next
decreases-loop-next l = length l.rest
