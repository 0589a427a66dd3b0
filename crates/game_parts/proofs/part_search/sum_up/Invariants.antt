use Rattle.std.proofs.Common.{◌≡◌, take}
use Rattle.game_parts.specs.inside.Findings.{edges_found, first_found}
use Rattle.game_parts.proofs.part_search.sum_up.Given as goal

abbrev pub invariant-loop-finding : goal.invariant-loop-finding
invariant-loop-finding l = (l.edges ≡ edges_found (take l.finding-index l.findings)) × (l.first ≡ first_found (take l.finding-index l.findings))
