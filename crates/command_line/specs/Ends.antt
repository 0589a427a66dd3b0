-- What the devices of a run show of its end.
use Rattle.std.specs.Prelude.{◌≡◌, ◌≢◌, IsTrue}
use Rattle.run_devices.specs.Devices.{next_count, Reading, Writing}
use Rattle.run_devices.specs.declared.transfer.ReadFault.{ReadFault}
use Rattle.run_devices.specs.declared.transfer.ReadFault.TheVariants as reads
use Rattle.command_line.specs.declared.outcome.Failure.{Failure}
use Rattle.command_line.specs.declared.outcome.Failure.TheVariants.{Read, Write, Memory}
use Rattle.command_line.specs.declared.outcome.Outcome.{Outcome}
use Rattle.command_line.specs.declared.outcome.Outcome.TheVariants.{Done, Failed}

-- the failure of a run whose source wasn't read
abbrev pub failure_of : ReadFault → Failure
failure_of reads.Device = Read
failure_of reads.Memory = Memory

-- A device is told to have failed where its count rose by one, and its count stands everywhere else; and nothing is written
-- but an answer, or a part of one.
pub record IsShownBy (outcome : Outcome) (source : Reading) (out : Writing) : Type 0 where
  pub nothing_written : outcome ≢ Done → outcome ≢ Failed Write → out.after ≡ out.before
  pub read_fault : outcome ≡ Failed Read → source.faults_after ≡ next_count source.faults_before
  pub no_read_fault : outcome ≢ Failed Read → source.faults_after ≡ source.faults_before
  pub sound_source : IsTrue source.is_sound → outcome ≢ Failed Read
  pub write_fault : outcome ≡ Failed Write → out.faults_after ≡ next_count out.faults_before
  pub no_write_fault : outcome ≢ Failed Write → out.faults_after ≡ out.faults_before
