-- From the bytes of a plant to a loop of answers: a text was written for the bytes, it was read again, and each sample applies
-- what is answered at its state. What was read then holds the plant that the bytes spell, and this is what becomes of it.
use Rattle.std.specs.Prelude.{◌≡◌, ◌⊎◌, ℕ, List, Option, Some, IfSome}
use Rattle.plant_record.specs.declared.aims.GoalKind.TheVariants.{Reach, Keep}
use Rattle.plant_record.specs.Description.{Description}
use Rattle.plant_text.specs.Grammar.{Spells}
use Rattle.text_control.specs.declared.control_fault.ControlFault.{ControlFault}
use Rattle.text_control.specs.Texts.{TextModel, IsReadFrom, IsNoTextFor}
use Rattle.text_control.specs.Loops.{IsLoop, IsPatrolLoop}
use Rattle.text_control.specs.Laws.{EndsTurn}
use Rattle.command_line.specs.declared.command.Command.{Command}
use Rattle.command_line.specs.declared.command.Command.TheVariants.{Synth, Check, Upgrade, Sim, Demo, Stay, Patrol}
use Rattle.run_devices.specs.Devices.{Writing, GainsWhole}
use Rattle.synth_run.specs.Sources.{bytes_for}
use Rattle.synth_run.specs.RunClauses.{IsAnswered}
use Rattle.synth_run.specs.Headline.{IsTableFor, IsStayTableFor, IsPatrolTableFor, IsAnswer}
use Rattle.driven_loops.specs.LoopPromises.{OfTables, OfStayTexts, OfPatrolTexts, LoopsEnd, LoopsKeep, LoopsSettle, LoopsPatrol}

-- the text is written for the bytes, as a table, a stay text or a patrol text
abbrev pub IsWrittenFor : List ℕ → List ℕ → Type 0
IsWrittenFor bytes text = IsTableFor bytes text ⊎ IsStayTableFor bytes text ⊎ IsPatrolTableFor bytes text

-- the command writes such a text
abbrev pub WritesText : Command → Type 0
WritesText (Synth workers) = Unit {0}
WritesText Check = ⊥
WritesText Upgrade = ⊥
WritesText (Sim samples seed start) = ⊥
WritesText (Demo number workers) = ⊥
WritesText (Stay workers) = Unit {0}
WritesText (Patrol workers) = Unit {0}

-- What status 0 of such a command says where its source shows the bytes: they spell a plant, and a text that is written for
-- them, of the command's kind, was written whole.
abbrev pub AnswersAreWritten : Type 0
AnswersAreWritten =
    (command : Command) (told : Option (List ℕ)) (bytes : List ℕ) (out : Writing) → WritesText command → told ≡ Some bytes → IfSome (bytes_for command told) (λ read. IsAnswered command read out)
    → ((p : Description) × Spells bytes p) × ((text : List ℕ) × IsAnswer command bytes text × IsWrittenFor bytes text × GainsWhole out text)

-- a text that was written is read again: it says something, and there is no reason to refuse it
abbrev pub WrittenTextsAreRead : Type 0
WrittenTextsAreRead = (bytes text : List ℕ) → IsWrittenFor bytes text → ((t : TextModel) × IsReadFrom text t) × ((f : ControlFault) → IsNoTextFor text f → ⊥)

-- with `goal reach` loops end in a target
abbrev pub WrittenTablesEnd : Type 0
WrittenTablesEnd = OfTables Reach (LoopsEnd IsLoop)

-- with `goal keep` loops stay off the obstacles
abbrev pub WrittenTablesKeep : Type 0
WrittenTablesKeep = OfTables Keep (LoopsKeep IsLoop)

-- with the text of reach and stay loops settle in the targets
abbrev pub WrittenStayTextsSettle : Type 0
WrittenStayTextsSettle = OfStayTexts (LoopsSettle IsLoop)

-- with the text of a patrol loops come into the targets in turn
abbrev pub WrittenPatrolTextsGoOn : Type 0
WrittenPatrolTextsGoOn = OfPatrolTexts (LoopsPatrol IsPatrolLoop EndsTurn)
