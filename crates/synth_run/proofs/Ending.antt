-- How a run of a command ends.
use Rattle.std.proofs.Common.{◌≡◌, Option, None, refl, sym, subst}
use Rattle.cell_counters.specs.BoardModels.{BoardModel, RootModel}
use Rattle.run_devices.specs.Devices.{Reading, Writing, GainsWhole, GainsPart}
use Rattle.run_devices.specs.Transfers.{IsUntouched}
use Rattle.command_line.specs.declared.command.Command.{Command}
use Rattle.command_line.specs.declared.outcome.Failure.TheVariants.{Read, Write, Memory}
use Rattle.command_line.specs.declared.outcome.Outcome.{Outcome}
use Rattle.command_line.specs.declared.outcome.Outcome.TheVariants.{Done, Usage, Refused, Failed}
use Rattle.text_abstraction.specs.declared.stop.Stop.{Stop}
use Rattle.text_abstraction.specs.declared.stop.Stop.TheVariants as stops
use Rattle.command_texts.specs.declared.text.Text.{Text}
use Rattle.synth_run.specs.Headline.{IsAnswer}
use Rattle.synth_run.specs.Played.{IsPlayed}
use Rattle.synth_run.specs.RunClauses.{IsAnswered, IsCutOff, Writes, TakesFor, IsRunOf}
use Rattle.synth_run.specs.Sources.{bytes_for}
use Rattle.command_texts.specs.Texts.{bytes_of}
use Rattle.text_abstraction.specs.Causes.{outcome_of}
use Rattle.synth_run.specs.inside.Working.{IsWorkedOut, IsStopped, IsWrittenOut, IsLeftAfter}
use Rattle.command_line.proofs.Shown.{shown_done, shown_cut_off, shown_refused, shown_unread, shown_without_memory}
use Rattle.base.proofs.Options.{IfSome-weaker}

-- nothing is written where a run isn't done and no write failed
nothing_written : (command : Command) (outcome : Outcome) (source : Reading) (out : Writing) → (outcome ≡ Done → ⊥) → (outcome ≡ Failed Write → ⊥) → Writes command outcome source out
nothing_written command outcome source out not_done not_cut = record { answered = λ e. absurd (not_done e); cut_off = λ e. absurd (not_cut e) }

-- there is no memory left, and nothing is written
ends_without_memory : (command : Command) (source : Reading) (out : Writing) → TakesFor command (Failed Memory) source → source.faults_after ≡ source.faults_before → IsUntouched out → IsRunOf command (Failed Memory) source out None
ends_without_memory command source out takes no_fault untouched = record {
  ends = tt;
  writes = nothing_written command (Failed Memory) source out (λ e. cc) (λ e. cc);
  takes = takes;
  leaves = λ e. absurd (let clash : Failed Memory ≡ Done = e in cc);
  leaves_nothing = λ _. refl;
  shown = shown_without_memory source out no_fault untouched;
}

-- there is no answer, and nothing is written
pub ends_stopped : (command : Command) (stop : Stop) (source : Reading) (out : Writing) → IsStopped command source stop → IsUntouched out → IsRunOf command (outcome_of stop) source out None
ends_stopped command (stops.Refused refusal) source out h untouched = record {
  ends = h.ends;
  writes = nothing_written command (Refused refusal) source out (λ e. cc) (λ e. cc);
  takes = h.takes;
  leaves = λ e. absurd (let clash : Refused refusal ≡ Done = e in cc);
  leaves_nothing = λ _. refl;
  shown = shown_refused refusal source out (h.no_fault (λ e. cc)) untouched;
}
ends_stopped command (stops.Failed Read) source out h untouched = record {
  ends = h.ends;
  writes = nothing_written command (Failed Read) source out (λ e. cc) (λ e. cc);
  takes = h.takes;
  leaves = λ e. absurd (let clash : Failed Read ≡ Done = e in cc);
  leaves_nothing = λ _. refl;
  shown = shown_unread source out (h.fault refl) (λ is_sound. h.sound is_sound refl) untouched;
}
ends_stopped command (stops.Failed Write) source out h untouched = absurd (h.not_write refl)
ends_stopped command (stops.Failed Memory) source out h untouched = ends_without_memory command source out h.takes (h.no_fault (λ e. cc)) untouched

-- the whole answer is written
ends_done : (command : Command) (text : Text) (source : Reading) (out : Writing) (played : Option (BoardModel × RootModel)) → IsWorkedOut command text source → IsPlayed command source.before played → GainsWhole out (bytes_of text) → IsRunOf command Done source out played
ends_done command text source out played h left whole = record {
  ends = h.ends;
  writes = record {
    answered = λ _. IfSome-weaker (bytes_for command source.before) (λ bytes. IsAnswer command bytes (bytes_of text)) (λ bytes. IsAnswered command bytes out) (λ bytes answer. (bytes_of text, answer, whole)) h.answer;
    cut_off = λ e. absurd (let clash : Done ≡ Failed Write = e in cc);
  };
  takes = h.takes Done;
  leaves = λ _. left;
  leaves_nothing = λ not_done. absurd (not_done refl);
  shown = shown_done source out (bytes_of text) h.no_fault whole;
}

-- a write fails within the answer
ends_cut_off : (command : Command) (text : Text) (source : Reading) (out : Writing) → IsWorkedOut command text source → GainsPart out (bytes_of text) → IsRunOf command (Failed Write) source out None
ends_cut_off command text source out h part = record {
  ends = tt;
  writes = record {
    answered = λ e. absurd (let clash : Failed Write ≡ Done = e in cc);
    cut_off = λ _. IfSome-weaker (bytes_for command source.before) (λ bytes. IsAnswer command bytes (bytes_of text)) (λ bytes. IsCutOff command bytes out) (λ bytes answer. (bytes_of text, answer, part)) h.answer;
  };
  takes = h.takes (Failed Write);
  leaves = λ e. absurd (let clash : Failed Write ≡ Done = e in cc);
  leaves_nothing = λ _. refl;
  shown = shown_cut_off source out (bytes_of text) h.no_fault part;
}

pub ends_written_out : (command : Command) (text : Text) (source : Reading) (out : Writing) (played left : Option (BoardModel × RootModel)) (outcome : Outcome) → IsWorkedOut command text source → IsPlayed command source.before played → IsWrittenOut text outcome out → IsLeftAfter outcome played left → IsRunOf command outcome source out left
ends_written_out command text source out played left Done h to_leave end after =
    subst (λ (l : Option (BoardModel × RootModel)). IsRunOf command Done source out l) (sym (after.all refl)) (ends_done command text source out played h to_leave end)
ends_written_out command text source out played left (Failed Write) h to_leave end after =
    subst (λ (l : Option (BoardModel × RootModel)). IsRunOf command (Failed Write) source out l) (sym (after.nothing (λ e. cc))) (ends_cut_off command text source out h end)
ends_written_out command text source out played left (Failed Memory) h to_leave end after =
    subst (λ (l : Option (BoardModel × RootModel)). IsRunOf command (Failed Memory) source out l) (sym (after.nothing (λ e. cc))) (ends_without_memory command source out (h.takes (Failed Memory)) h.no_fault end)
ends_written_out command text source out played left Usage h to_leave end after = absurd end
ends_written_out command text source out played left (Refused refusal) h to_leave end after = absurd end
ends_written_out command text source out played left (Failed Read) h to_leave end after = absurd end
