-- How many workers a run may have, and how many readers live tables.
use Rattle.std.specs.Prelude.{ℕ, ◌≤◌}
use Rattle.base.specs.declared.limits.TheConstants.{WORKERS_LIMIT}

-- as many workers, or readers, as are allowed
abbrev pub AreWorkers : ℕ → Type 0
AreWorkers workers = (1 ≤ workers) × (workers ≤ WORKERS_LIMIT)
