-- What the program does with its words and its streams.
use Rattle.std.specs.Prelude.{◌≡◌, ℕ, ◌<◌, List, [], length, slice_index_or, Option, codes}
use Rattle.cell_counters.specs.BoardModels.{BoardModel, RootModel}
use Rattle.run_devices.specs.Devices.{Reading, Writing}
use Rattle.live_run.specs.LiveRuns.{IsLiveRun}
use Rattle.synth_run.specs.RunClauses.{IsRun}

-- the first word is `live`
abbrev pub BeginWithLive : List (List ℕ) → Type 0
BeginWithLive arguments = (0 < length arguments) × (slice_index_or arguments 0 [] ≡ codes "live")

-- The status is that of a live run of the words where the first is `live`, and else that of a run of them.
pub record DoesAsAsked (arguments : List (List ℕ)) (status : ℕ) (source : Reading) (out err : Writing) : Type 0 where
  pub live : BeginWithLive arguments → IsLiveRun arguments status source out err
  pub other : (BeginWithLive arguments → ⊥) → (played : Option (BoardModel × RootModel)) × IsRun arguments status source out err played
