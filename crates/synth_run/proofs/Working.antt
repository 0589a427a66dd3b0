-- What a command has worked out from what it read.
use Rattle.std.proofs.Common.{Bool, refl, take, drop, length, ◌≡◌, ◌<◌, ℕ, List, [], sym, subst, arith}
use Rattle.std.specs.Prelude.{Option, Some, None, IfSome, IsTrue}
use Rattle.command_line.specs.declared.command.Command.{Command}
use Rattle.command_line.specs.declared.command.Command.TheVariants.{Synth, Check, Upgrade, Sim, Demo, Stay, Patrol}
use Rattle.controller_table.proofs.ShortTexts.{tables_are_short}
use Rattle.run_devices.specs.declared.transfer.ReadFault.{ReadFault as Fault}
use Rattle.run_devices.specs.declared.transfer.ReadFault.TheVariants as faults
use Rattle.command_line.specs.declared.outcome.Failure.TheVariants.{Read, Write, Memory}
use Rattle.text_abstraction.specs.declared.stop.Stop.{Stop}
use Rattle.text_abstraction.specs.declared.stop.Stop.TheVariants.{Refused, Failed}
use Rattle.command_texts.specs.declared.text.Text.{Text}
use Rattle.run_devices.specs.Devices.{next_count, Reading, TakesAtMost}
use Rattle.command_texts.specs.Texts.{bytes_of, CanBeWritten}
use Rattle.run_devices.specs.Transfers.{ReadUpTo}
use Rattle.synth_run.specs.inside.Working.{IsWorkedOut, IsStopped}
use Rattle.synth_run.specs.Sources.{Reads, bytes_for, most_read}
use Rattle.command_outcomes.specs.IsOutcomeFor.{IsAnswerable}
use Rattle.synth_run.specs.Headline.{IsAnswer}
use Rattle.text_abstraction.specs.Causes.{of_read, IsStopFor}
use Rattle.synth_run.specs.inside.Making.{IsReadFor}
use Rattle.command_outcomes.specs.Stages.{IsStagedRefusal}
use Rattle.synth_run.proofs.Limits.{of_front, of_some, passes_on, read_to_the_limit}
use Rattle.command_outcomes.proofs.Stages.{unstaged}

-- a text that has an answer is to be answered
answered_is_answerable : (command : Command) (bytes text : List ℕ) → IsAnswer command bytes text → IsAnswerable command bytes
answered_is_answerable (Synth workers) bytes text h = (h.0, h.1, h.2)
answered_is_answerable Check bytes text h = (h.0.plant, h.0.rows, h.0.table, (h.0.solvable, h.0.solution))
answered_is_answerable Upgrade bytes text h = (h.plant, h.rows, h.table, h.fits)
answered_is_answerable (Sim samples seed start) bytes text h = (h.plant, h.rows, h.table, (h.fits, h.begins))
answered_is_answerable (Demo n workers) bytes text h = tt
answered_is_answerable (Stay workers) bytes text h = (h.0, h.1, h.2)
answered_is_answerable (Patrol workers) bytes text h = (h.0, h.1, h.2)

-- an answer for what was read is the command's
pub worked_out : (command : Command) (source : Reading) (read : List ℕ) (text : Text) → IsReadFor command read source → CanBeWritten text → IsAnswer command read (bytes_of text) → IsWorkedOut command text source
worked_out command source read text whole fits answer = record {
  can_be_written = fits;
  answer = of_front (λ bytes. IsAnswer command bytes (bytes_of text)) (most_read command) (bytes_for command source.before) read whole.front longer answer;
  ends =
      let all = of_some (λ bytes. IsAnswer command bytes (bytes_of text)) (most_read command) (bytes_for command source.before) read whole.front longer answer in
      (all.0, all.1, answered_is_answerable command all.0 (bytes_of text) all.2);
  takes = whole.takes;
  no_fault = whole.no_fault;
}
  where
    longer : (bytes : List ℕ) → most_read command < length bytes → IsAnswer command (take (most_read command) bytes) (bytes_of text) → IsAnswer command bytes (bytes_of text)
    longer = (passes_on tables_are_short command).answers (bytes_of text)

-- what was read is refused so, or there was no memory
pub stopped : (command : Command) (source : Reading) (read : List ℕ) (stop : Stop) → IsReadFor command read source → IsStopFor (IsStagedRefusal command read) stop → IsStopped command source stop
stopped command source read (Refused refusal) whole h = record {
  ends =
      let all = of_some (λ bytes. IsStagedRefusal command bytes refusal) (most_read command) (bytes_for command source.before) read whole.front ((passes_on tables_are_short command).refusals refusal) h in
      (all.0, all.1, unstaged command all.0 refusal all.2);
  not_write = λ e. cc;
  takes = whole.takes _;
  fault = λ e. absurd (let clash : Refused refusal ≡ Failed Read = e in cc);
  no_fault = λ _. whole.no_fault;
  sound = λ _ e. cc;
}
stopped command source read (Failed Read) whole h = absurd h
stopped command source read (Failed Write) whole h = absurd h
stopped command source read (Failed Memory) whole h = record {
  ends = tt;
  not_write = λ e. cc;
  takes = whole.takes _;
  fault = λ e. absurd (let clash : Failed Memory ≡ Failed Read = e in cc);
  no_fault = λ _. whole.no_fault;
  sound = λ _ e. cc;
}

-- ---- reading

-- a command that reads works on all that its source tells
works_on_all : (command : Command) → Reads command → (told : Option (List ℕ)) → bytes_for command told ≡ told
works_on_all (Synth workers) reads told = refl
works_on_all Check reads told = refl
works_on_all Upgrade reads told = refl
works_on_all (Sim samples seed start) reads told = refl
works_on_all (Demo number workers) reads told = absurd reads
works_on_all (Stay workers) reads told = refl
works_on_all (Patrol workers) reads told = refl

-- all but `demo` read
pub reads_unless_demo : (command : Command) → ((number workers : ℕ) → command ≡ Demo number workers → ⊥) → Reads command
reads_unless_demo (Synth workers) other = tt
reads_unless_demo Check other = tt
reads_unless_demo Upgrade other = tt
reads_unless_demo (Sim samples seed start) other = tt
reads_unless_demo (Demo number workers) other = absurd (other number workers refl)
reads_unless_demo (Stay workers) other = tt
reads_unless_demo (Patrol workers) other = tt

front_of : (most : ℕ) (told after : Option (List ℕ)) (read : List ℕ) → ReadUpTo told after most read → IfSome told (λ bytes. read ≡ take most bytes)
front_of most None after read up_to = tt
front_of most (Some bytes) after read up_to = up_to.0

-- a source was read to the limit of a command's text
pub is_read : (command : Command) → Reads command → (source : Reading) (read : List ℕ)
    → ReadUpTo source.before source.after (most_read command) read → TakesAtMost source.before source.after (most_read command) → source.faults_after ≡ source.faults_before → IsReadFor command read source
is_read command reads source read up_to within no_fault = record {
  front = subst (λ (told : Option (List ℕ)). IfSome told (λ bytes. read ≡ take (most_read command) bytes)) (sym (works_on_all command reads source.before)) (front_of (most_read command) source.before source.after read up_to);
  takes = λ _. record { read = λ _ _. read_to_the_limit (most_read command) source.before source.after read up_to; never_past = within; leaves_alone = λ none. absurd (none reads) };
  no_fault = no_fault;
}

-- a read failed, or there was no memory for what was read
pub is_unread : (command : Command) → Reads command → (source : Reading) (fault : Fault)
    → TakesAtMost source.before source.after (most_read command)
    → (fault ≡ faults.Device → source.faults_after ≡ next_count source.faults_before)
    → ((fault ≡ faults.Device → ⊥) → source.faults_after ≡ source.faults_before)
    → (IsTrue source.is_sound → fault ≡ faults.Device → ⊥)
    → IsStopped command source (of_read fault)
is_unread command reads source faults.Device within failed stood sound = record {
  ends = reads;
  not_write = λ e. cc;
  takes = record { read = λ other _. absurd (other refl); never_past = within; leaves_alone = λ none. absurd (none reads) };
  fault = λ _. failed refl;
  no_fault = λ other. absurd (other refl);
  sound = λ is_sound _. sound is_sound refl;
}
is_unread command reads source faults.Memory within failed stood sound = record {
  ends = tt;
  not_write = λ e. cc;
  takes = record { read = λ _ some. absurd (some refl); never_past = within; leaves_alone = λ none. absurd (none reads) };
  fault = λ e. absurd (let clash : Failed Memory ≡ Failed Read = e in cc);
  no_fault = λ _. stood (λ e. cc);
  sound = λ _ e. cc;
}

-- ---- demo plants

unread : (told : Option (List ℕ)) → IfSome told (λ bytes. told ≡ Some (drop 0 bytes))
unread None = tt
unread (Some bytes) = refl

none_taken : (told : Option (List ℕ)) → TakesAtMost told told 0
none_taken None = tt
none_taken (Some bytes) = (0, omega arith, refl)

-- the source of a demo plant stays as it was
pub demo_is_read : (number workers : ℕ) (told : Option (List ℕ)) (faults : ℕ) (sound : Bool) → IsReadFor (Demo number workers) [] (record { before = told; after = told; faults_before = faults; faults_after = faults; is_sound = sound })
demo_is_read number workers told faults sound = record { front = refl; takes = λ _. record { read = λ _ _. unread told; never_past = none_taken told; leaves_alone = λ _. refl }; no_fault = refl }
