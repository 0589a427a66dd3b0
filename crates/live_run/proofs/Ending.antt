-- How a run of a live script ends.
use Rattle.std.proofs.Common.{inl, inr, ◌≡◌, ℕ, ◌<◌, List, length, take, drop, Option, Some, None, refl, ap, sym, subst, arith, length-take}
use Rattle.std.specs.Prelude.{IfSome}
use Rattle.std.proofs.lemmas.Bool.{cases_lt}
use Rattle.std.proofs.lemmas.List.{take_all}
use Rattle.run_devices.specs.Devices.{Reading, Writing, GainsWhole, GainsPart, TakesAtMost}
use Rattle.run_devices.specs.Transfers.{ReadUpTo, IsUntouched}
use Rattle.live_script.specs.declared.script_fault.ScriptFault.{ScriptFault}
use Rattle.live_script.specs.declared.script_fault.ScriptFault.TheVariants as scripts
use Rattle.live_script.specs.Scripts.{IsShortScript}
use Rattle.live_script.specs.LiveText.{IsLiveText}
use Rattle.live_script.specs.ScriptRefusals.{IsScriptRefusedFor}
use Rattle.live_script.proofs.ScriptLaws.{one_script_refusal, no_script_is_refused}
use Rattle.run_devices.specs.declared.transfer.ReadFault.{ReadFault}
use Rattle.run_devices.specs.declared.transfer.ReadFault.TheVariants as reads
use Rattle.command_line.specs.declared.outcome.Refusal.{Refusal}
use Rattle.command_line.specs.declared.outcome.Refusal.TheVariants.{Malformed, Limit, ScriptTooLong, TooManyTables}
use Rattle.command_line.specs.declared.outcome.Failure.TheVariants.{Read, Write, Memory}
use Rattle.command_line.specs.declared.outcome.Outcome.{Outcome}
use Rattle.command_line.specs.declared.outcome.Outcome.TheVariants.{Done, Usage, Refused, Failed}
use Rattle.command_line.specs.Statuses.{status_of}
use Rattle.live_run.specs.LiveCauses.{of_script}
use Rattle.command_line.specs.Ends.{failure_of}
use Rattle.live_run.specs.LiveRuns.{most_read, IsAnswered, IsCutOff, Ends, IsLiveEnd, IsCompleteAnswer}
use Rattle.live_run.specs.inside.Answering.{IsUnanswered}
use Rattle.live_run.specs.declared.live_stop.LiveStop.{LiveStop}
use Rattle.live_run.specs.declared.live_stop.LiveStop.TheVariants.{Unread, Unanswered}
use Rattle.live_run.specs.inside.LiveWorking.{IsScriptRead, IsWorkedOut, IsUnread, IsStopped, outcome_of_stop, IsWrittenOut}
use Rattle.command_line.proofs.Shown.{shown_done, shown_cut_off, shown_refused, shown_unread, shown_without_memory}

-- ---- what was read stands for the whole script

of_whole : (Holds : List ℕ → Type 0) (told after : Option (List ℕ)) (read : List ℕ) → ReadUpTo told after most_read read → ((bytes : List ℕ) → most_read < length bytes → Holds (take most_read bytes) → Holds bytes) → Holds read → IfSome told Holds
of_whole Holds None after read up_to longer h = tt
of_whole Holds (Some bytes) after read up_to longer h =
    let front : Holds (take most_read bytes) = subst Holds up_to.0 h in
    elim (cases_lt most_read (length bytes)) [
      | inl lt ↦ longer bytes lt front
      | inr le ↦ subst Holds (take_all most_read bytes le) front
    ]

-- where a source doesn't tell its script, what was read is one of which this holds
of_some : (Holds : List ℕ → Type 0) (told after : Option (List ℕ)) (read : List ℕ) → ReadUpTo told after most_read read → ((bytes : List ℕ) → most_read < length bytes → Holds (take most_read bytes) → Holds bytes) → Holds read
    → (script : List ℕ) × IfSome told (λ all. all ≡ script) × Holds script
of_some Holds None after read up_to longer h = (read, tt, h)
of_some Holds (Some bytes) after read up_to longer h = (bytes, refl, of_whole Holds (Some bytes) after read up_to longer h)

to_the_limit : (told after : Option (List ℕ)) (read : List ℕ) → ReadUpTo told after most_read read → IfSome told (λ bytes. after ≡ Some (drop most_read bytes))
to_the_limit None after read up_to = tt
to_the_limit (Some bytes) after read up_to = up_to.1

long_front : (bytes : List ℕ) → most_read < length bytes → IsShortScript (take most_read bytes) → ⊥
long_front bytes lt short = omega (arith, lt, short, length-take most_read bytes)

answers_whole : (text bytes : List ℕ) → most_read < length bytes → IsLiveText (take most_read bytes) text → IsLiveText bytes text
answers_whole text bytes lt h = absurd (long_front bytes lt h.is_script.short)

refuses_whole : (fault : ScriptFault) (bytes : List ℕ) → most_read < length bytes → IsScriptRefusedFor (take most_read bytes) fault → IsScriptRefusedFor bytes fault
refuses_whole (scripts.Malformed line) bytes lt h = absurd (long_front bytes lt h.0)
refuses_whole (scripts.Limit what) bytes lt h = absurd (long_front bytes lt h.0)
refuses_whole scripts.ScriptTooLong bytes lt h = λ short. omega (arith, lt, short)
refuses_whole scripts.TooManyTables bytes lt h = absurd (long_front bytes lt h.0)
refuses_whole scripts.Memory bytes lt h = h

-- ---- the ends of a run

-- there was no memory
ends_without_memory : (source : Reading) (out : Writing) → TakesAtMost source.before source.after most_read → source.faults_after ≡ source.faults_before → IsUntouched out → IsLiveEnd (Failed Memory) source out
ends_without_memory source out within stood untouched = record {
  ends = tt;
  answered = λ e. absurd (let clash : Failed Memory ≡ Done = e in cc);
  cut_off = λ e. absurd (let clash : Failed Memory ≡ Failed Write = e in cc);
  read = λ _ some. absurd (some refl);
  never_past = within;
  shown = shown_without_memory source out stood untouched;
}

-- nothing was read, or not all
ends_unread : (fault : ReadFault) (source : Reading) (out : Writing) → IsUnread fault source → IsUntouched out → IsLiveEnd (Failed (failure_of fault)) source out
ends_unread reads.Device source out h untouched = record {
  ends = tt;
  answered = λ e. absurd (let clash : Failed Read ≡ Done = e in cc);
  cut_off = λ e. absurd (let clash : Failed Read ≡ Failed Write = e in cc);
  read = λ other _. absurd (other refl);
  never_past = h.never_past;
  shown = shown_unread source out (h.failed refl) (λ is_sound. h.sound is_sound refl) untouched;
}
ends_unread reads.Memory source out h untouched = ends_without_memory source out h.never_past (h.stood (λ e. cc)) untouched

-- the script is refused
ends_refused : (fault : ScriptFault) (refusal : Refusal) (source : Reading) (read : List ℕ) (out : Writing) → of_script fault ≡ Refused refusal → IsScriptRead source read → IsScriptRefusedFor read fault → IsUntouched out → IsLiveEnd (Refused refusal) source out
ends_refused fault refusal source read out same is h untouched = record {
  ends = of_some (λ script. (why : ScriptFault) × (Refused refusal ≡ of_script why) × IsScriptRefusedFor script why) source.before source.after read is.up_to
      (λ bytes lt g. (g.0, g.1, refuses_whole g.0 bytes lt g.2)) (fault, sym same, h);
  answered = λ e. absurd (let clash : Refused refusal ≡ Done = e in cc);
  cut_off = λ e. absurd (let clash : Refused refusal ≡ Failed Write = e in cc);
  read = λ _ _. to_the_limit source.before source.after read is.up_to;
  never_past = is.never_past;
  shown = shown_refused refusal source out is.no_fault untouched;
}

-- what was read has no answers
ends_unanswered : (fault : ScriptFault) (source : Reading) (read : List ℕ) (out : Writing) → IsScriptRead source read → IsUnanswered read fault → IsUntouched out → IsLiveEnd (of_script fault) source out
ends_unanswered (scripts.Malformed line) source read out is why untouched = ends_refused (scripts.Malformed line) (Malformed line) source read out refl is (why (λ e. cc)) untouched
ends_unanswered (scripts.Limit what) source read out is why untouched = ends_refused (scripts.Limit what) (Limit what) source read out refl is (why (λ e. cc)) untouched
ends_unanswered scripts.ScriptTooLong source read out is why untouched = ends_refused scripts.ScriptTooLong ScriptTooLong source read out refl is (why (λ e. cc)) untouched
ends_unanswered scripts.TooManyTables source read out is why untouched = ends_refused scripts.TooManyTables TooManyTables source read out refl is (why (λ e. cc)) untouched
ends_unanswered scripts.Memory source read out is why untouched = ends_without_memory source out is.never_past is.no_fault untouched

pub ends_stopped : (stop : LiveStop) (source : Reading) (out : Writing) → IsStopped stop source → IsUntouched out → IsLiveEnd (outcome_of_stop stop) source out
ends_stopped (Unread fault) source out h untouched = ends_unread fault source out h untouched
ends_stopped (Unanswered fault) source out h untouched = ends_unanswered fault source h.script out h.read h.why untouched

ends_done : (text : List ℕ) (source : Reading) (read : List ℕ) (out : Writing) → IsScriptRead source read → IsLiveText read text → GainsWhole out text → IsLiveEnd Done source out
ends_done text source read out is answers whole = record {
  ends = of_some (λ script. (answered : List ℕ) × IsLiveText script answered) source.before source.after read is.up_to (λ bytes lt h. (h.0, answers_whole h.0 bytes lt h.1)) (text, answers);
  answered = λ _. of_whole (λ script. IsAnswered script out) source.before source.after read is.up_to (λ bytes lt h. (h.0, answers_whole h.0 bytes lt h.1, h.2)) (text, answers, whole);
  cut_off = λ e. absurd (let clash : Done ≡ Failed Write = e in cc);
  read = λ _ _. to_the_limit source.before source.after read is.up_to;
  never_past = is.never_past;
  shown = shown_done source out text is.no_fault whole;
}

ends_cut_off : (text : List ℕ) (source : Reading) (read : List ℕ) (out : Writing) → IsScriptRead source read → IsLiveText read text → GainsPart out text → IsLiveEnd (Failed Write) source out
ends_cut_off text source read out is answers part = record {
  ends = tt;
  answered = λ e. absurd (let clash : Failed Write ≡ Done = e in cc);
  cut_off = λ _. of_whole (λ script. IsCutOff script out) source.before source.after read is.up_to (λ bytes lt h. (h.0, answers_whole h.0 bytes lt h.1, h.2)) (text, answers, part);
  read = λ _ _. to_the_limit source.before source.after read is.up_to;
  never_past = is.never_past;
  shown = shown_cut_off source out text is.no_fault part;
}

pub ends_written_out : (outcome : Outcome) (text : List ℕ) (source : Reading) (out : Writing) → IsWorkedOut text source → IsWrittenOut text outcome out → IsLiveEnd outcome source out
ends_written_out Done text source out h end = ends_done text source h.script out h.read h.answers end
ends_written_out Usage text source out h end = absurd end
ends_written_out (Refused refusal) text source out h end = absurd end
ends_written_out (Failed Read) text source out h end = absurd end
ends_written_out (Failed Write) text source out h end = ends_cut_off text source h.script out h.read h.answers end
ends_written_out (Failed Memory) text source out h end = absurd end

-- ---- completeness

of_refusal : (script : List ℕ) (fault : ScriptFault) → IsScriptRefusedFor script fault → IsCompleteAnswer (status_of (of_script fault)) script
of_refusal script fault refused = record {
  answered = λ commands is. absurd (no_script_is_refused script commands fault is refused);
  refused = λ other h. inl (ap (λ (f : ScriptFault). status_of (of_script f)) (one_script_refusal script fault other refused h));
}

pub complete : (outcome : Outcome) (before : Option (List ℕ)) → Ends before outcome → (outcome ≡ Failed Read → ⊥) → (outcome ≡ Failed Write → ⊥) → IfSome before (IsCompleteAnswer (status_of outcome))
complete outcome None ends read write = tt
complete Done (Some script) ends read write = record {
  answered = λ commands is. inl refl;
  refused = λ fault h. absurd (let is = ends.2.1 in no_script_is_refused ends.0 is.commands fault is.is_script (subst (λ (all : List ℕ). IsScriptRefusedFor all fault) ends.1 h));
}
complete Usage (Some script) ends read write = absurd ends
complete (Refused refusal) (Some script) ends read write =
    let why = ends.2 in
    subst (λ (o : Outcome). IsCompleteAnswer (status_of o) script) (sym why.1) (of_refusal script why.0 (subst (λ (all : List ℕ). IsScriptRefusedFor all why.0) (sym ends.1) why.2))
complete (Failed Read) (Some script) ends read write = absurd (read refl)
complete (Failed Write) (Some script) ends read write = absurd (write refl)
complete (Failed Memory) (Some script) ends read write = record { answered = λ commands is. inr refl; refused = λ fault h. inr refl }
