use Rattle.std.proofs.Common.{◌≡◌, ℕ, ◌<◌, length, get_or}
use Rattle.plant_record.specs.Steps.{equation_at}
use Rattle.successor_box.specs.SuccessorBoxes.{growth_of}
use Rattle.successor_box.specs.inside.Area.{no_range}
use Rattle.successor_box.specs.inside.Lines.{AreValuesUnder}
use Rattle.successor_box.proofs.sampled.Sampled.growth_intervals.Given as goal

-- the growth bounds so far
abbrev pub invariant-loop-j : goal.invariant-loop-j
invariant-loop-j l = record {
  long : length l.growth_intervals ≡ 32;
  each : (i : ℕ) → i < l.j → (cell : ℕ → ℕ) → AreValuesUnder l.self.plant.now cell l.input l.at → get_or l.growth_intervals i no_range ≡ growth_of l.self.plant.now (cell i) l.input (equation_at l.self.plant.now l.state);
}
