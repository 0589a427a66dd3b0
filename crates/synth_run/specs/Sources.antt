-- What a command takes from its source. `demo` takes nothing.
use Rattle.std.specs.Prelude.{ℕ, ◌+◌, List, [], Option, Some}
use Rattle.run_devices.specs.Devices.{Rose}
use Rattle.command_line.specs.declared.command.Command.{Command}
use Rattle.command_line.specs.declared.command.Command.TheVariants.{Synth, Demo, Stay, Patrol}
use Rattle.base.specs.declared.limits.TheConstants.{TABLE_LIMIT, TEXT_LIMIT}

-- the command works on what its source gives; `demo` works on nothing
abbrev pub Reads : Command → Type 0
Reads (Demo number workers) = ⊥
Reads command = Unit {0}

-- the bytes that a command works on, from what the source tells; `demo` works on none
abbrev pub bytes_for : Command → Option (List ℕ) → Option (List ℕ)
bytes_for (Demo number workers) told = Some []
bytes_for command told = told

-- how many bytes a command reads at most: one past the limit of its text, or none
abbrev pub most_read : Command → ℕ
most_read (Synth workers) = TEXT_LIMIT + 1
most_read (Stay workers) = TEXT_LIMIT + 1
most_read (Patrol workers) = TEXT_LIMIT + 1
most_read (Demo number workers) = 0
most_read command = TABLE_LIMIT + 1

-- no read of a command failed, by its source's count of faults; `demo` makes none, whatever the count
abbrev pub NoReadFailed : Command → ℕ → ℕ → Type 0
NoReadFailed command before after = Reads command → Rose before after → ⊥
