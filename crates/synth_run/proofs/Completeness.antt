-- Where no device fails, every text has its answer.
use Rattle.std.proofs.Common.{inl, inr, ◌≡◌, ℕ, List, Option, Some, None, refl, sym, ap, subst}
use Rattle.std.specs.Prelude.{IfSome}
use Rattle.command_line.specs.declared.command.Command.{Command}
use Rattle.command_line.specs.declared.outcome.Failure.TheVariants.{Read, Write, Memory}
use Rattle.command_line.specs.declared.outcome.Outcome.{Outcome}
use Rattle.command_line.specs.declared.outcome.Outcome.TheVariants.{Done, Usage, Refused, Failed}
use Rattle.command_line.specs.Statuses.{status_of}
use Rattle.run_devices.specs.Devices.{next_count}
use Rattle.run_devices.proofs.Laws.{rose_by_one}
use Rattle.synth_run.specs.Sources.{NoReadFailed}
use Rattle.command_outcomes.specs.IsOutcomeFor.{IsOutcomeFor}
use Rattle.synth_run.specs.RunClauses.{Ends, IsCompleteAnswer}
use Rattle.command_outcomes.proofs.Outcomes.{one_outcome}

pub answer_is_complete : (command : Command) (outcome : Outcome) (told : Option (List ℕ)) → Ends command told outcome → (outcome ≡ Failed Read → ⊥) → (outcome ≡ Failed Write → ⊥) → IfSome told (IsCompleteAnswer command (status_of outcome))
answer_is_complete command outcome None ends read write = tt
answer_is_complete command Usage (Some bytes) ends read write = absurd ends.2
answer_is_complete command (Failed Read) (Some bytes) ends read write = absurd (read refl)
answer_is_complete command (Failed Write) (Some bytes) ends read write = absurd (write refl)
answer_is_complete command (Failed Memory) (Some bytes) ends read write = λ other outcome_for. inr refl
answer_is_complete command Done (Some bytes) ends read write = λ other outcome_for. inl (ap status_of (one_outcome command bytes Done other (subst (λ (all : List ℕ). IsOutcomeFor command all Done) (sym ends.1) ends.2) outcome_for))
answer_is_complete command (Refused r) (Some bytes) ends read write = λ other outcome_for. inl (ap status_of (one_outcome command bytes (Refused r) other (subst (λ (all : List ℕ). IsOutcomeFor command all (Refused r)) (sym ends.1) ends.2) outcome_for))

-- no read of a command failed where its source didn't count one, and none where the command makes none
pub read_did_not_fail : (command : Command) (outcome : Outcome) (told : Option (List ℕ)) (before after : ℕ) → Ends command told outcome → (outcome ≡ Failed Read → after ≡ next_count before) → NoReadFailed command before after → outcome ≡ Failed Read → ⊥
read_did_not_fail command outcome told before after ends fault none e = none (subst (Ends command told) e ends) (rose_by_one before after (fault e))
