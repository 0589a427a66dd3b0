-- What a quantiser keeps of its axis.
use Rattle.std.specs.Prelude.{◌≡◌, ℕ, ◌*◌, ◌/◌, ◌^◌, ◌<◌, ◌≤◌, ℤ, pos, neg_ℤ, nat_abs, ◌-ℤ◌, ◌≤ℤ◌}
use Rattle.grid_quantiser.specs.declared.axis.Axis.{Axis}
use Rattle.grid_quantiser.specs.Axes.{end_of}
use Rattle.base.specs.declared.limits.TheConstants.{NUMBER_LIMIT}

-- the axis from its least number to the least number past it
abbrev pub axis_between : ℤ → ℤ → ℕ → Axis
axis_between lo end width = record { lo = lo; width = pos width; count = nat_abs (end -ℤ lo) / width }

-- The two lie whole indices apart, as many as 32 bits count.
pub record HasEnds (lo end : ℤ) (width : ℕ) : Type 0 where
  pub some_width : 1 ≤ width
  pub whole : end_of (axis_between lo end width) ≡ end
  pub few : (axis_between lo end width).count < 2 ^ 32
  pub ordered : lo ≤ℤ end
  pub low_bound : neg_ℤ (pos (3 * NUMBER_LIMIT)) ≤ℤ lo
  pub high_bound : end ≤ℤ pos NUMBER_LIMIT
