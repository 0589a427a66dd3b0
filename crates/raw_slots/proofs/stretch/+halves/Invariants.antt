use Rattle.std.proofs.Common.{◌+◌, ◌-◌, ◌*◌}
use Rattle.raw_slots.proofs.stretch.+halves.Given as goal

abbrev pub decreases-Stretch::fill : goal.decreases-Stretch::fill
decreases-Stretch::fill g l = 4 * l.self.count

abbrev pub decreases-Stretch::fill_both : goal.decreases-Stretch::fill_both
decreases-Stretch::fill_both g l = 4 * (l.self.count + l.next.count) - 1

abbrev pub decreases-Stretch::fill_both-first : goal.decreases-Stretch::fill_both-first
decreases-Stretch::fill_both-first g l = 4 * l.self.count + 1

abbrev pub decreases-Stretch::fill_both-second : goal.decreases-Stretch::fill_both-second
decreases-Stretch::fill_both-second g l = 4 * l.next.count + 1
