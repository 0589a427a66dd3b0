-- What holds of every text, and what one that keeps its promise does to a plant whose loop applies the answers.
use Rattle.std.specs.Prelude.{◌≡◌, ◌⊎◌, ℕ, ◌<◌, ◌≤◌, ℤ, List, length, take}
use Rattle.std.specs.List.{All, Any}
use Rattle.plant_record.specs.States.{LiesInSome, IsClear}
use Rattle.row_runs.specs.declared.run.TableVersion.{TableVersion}
use Rattle.temporal_texts.specs.Settles.{Settles}
use Rattle.temporal_texts.specs.Patrols.{Patrols}
use Rattle.plant_refine.specs.Drives.{Drives}
use Rattle.plant_refine.specs.Stays.{Stays}
use Rattle.controller_table.specs.declared.text_kind.TextKind.TheVariants.{Table, Stay, Patrol}
use Rattle.text_control.specs.declared.control_fault.ControlFault.{ControlFault}
use Rattle.text_control.specs.Texts.{TextModel, Tells, IsReadFrom, IsNoTextFor}
use Rattle.text_control.specs.Control.{IsRank}
use Rattle.text_control.specs.Visits.{EndsTurnAt}
use Rattle.text_control.specs.Loops.{LoopSample, moved_by, AlwaysAnswers, IsLoop, IsPatrolLoop}

-- bytes say what is read from them
abbrev pub ReadTextsTell : Type 0
ReadTextsTell = (bytes : List ℕ) (t : TextModel) → IsReadFrom bytes t → Tells bytes t

-- bytes have at most one reason to be none of the three texts
abbrev pub OneTextRefusal : Type 0
OneTextRefusal = (bytes : List ℕ) (f g : ControlFault) → IsNoTextFor bytes f → IsNoTextFor bytes g → f ≡ g

-- no bytes are both one of the three texts and refused
abbrev pub NoBytesAreBoth : Type 0
NoBytesAreBoth = (bytes : List ℕ) (t : TextModel) (f : ControlFault) → Tells bytes t → IsNoTextFor bytes f → ⊥

-- no bytes are neither one of the three texts nor refused
abbrev pub NoBytesAreNeither : Type 0
NoBytesAreNeither = (bytes : List ℕ) → ((t : TextModel) → Tells bytes t → ⊥) → ((f : ControlFault) → IsNoTextFor bytes f → ⊥) → ⊥

-- Where a table drives its plant: on every loop from a state of rank k, until a state lies in a target each is off the obstacles
-- and has an answer, and within k samples one lies in a target.
abbrev pub ReachLoopsArrive : Type 0
ReachLoopsArrive =
    (bytes : List ℕ) (t : TextModel) (version : TableVersion) → Tells bytes t → t.kind ≡ Table version → Drives t.plant bytes
    → (x y : List ℤ) (k : ℕ) (samples : List LoopSample) → IsRank t x k → IsLoop t x samples y → All (λ (s : LoopSample). LiesInSome t.plant t.plant.targets s.state → ⊥) samples
    → IsClear t.plant y × (LiesInSome t.plant t.plant.targets y ⊎ ((length samples < k) × AlwaysAnswers t y))

-- Where a table keeps its plant: on every loop from a state with a row each state is off the obstacles and has an answer.
abbrev pub KeepLoopsGoOn : Type 0
KeepLoopsGoOn =
    (bytes : List ℕ) (t : TextModel) (version : TableVersion) → Tells bytes t → t.kind ≡ Table version → Stays t.plant bytes
    → (x y : List ℤ) (k : ℕ) (samples : List LoopSample) → IsRank t x k → IsLoop t x samples y → IsClear t.plant y × AlwaysAnswers t y

-- Where a stay text settles its plant: on every loop from a state of rank k each state is off the obstacles and has an
-- answer, and from the k-th sample on it lies in a target.
abbrev pub StayLoopsSettle : Type 0
StayLoopsSettle =
    (bytes : List ℕ) (t : TextModel) → Tells bytes t → t.kind ≡ Stay → Settles t.plant bytes
    → (x y : List ℤ) (k : ℕ) (samples : List LoopSample) → IsRank t x k → IsLoop t x samples y
    → IsClear t.plant y × AlwaysAnswers t y × (k ≤ length samples → LiesInSome t.plant t.plant.targets y)

-- a sample that leads to an arrival of a turn, within its target
abbrev pub EndsTurn : TextModel → LoopSample → Type 0
EndsTurn t s = EndsTurnAt t (moved_by t.plant s)

-- Where a patrol text patrols its plant's targets: on every loop from a state of rank k for the turn, each state is off the
-- obstacles and has an answer for its turn, and within k samples the first turn ends.
abbrev pub PatrolLoopsGoOn : Type 0
PatrolLoopsGoOn =
    (bytes : List ℕ) (t u : TextModel) → Tells bytes t → t.kind ≡ Patrol → Patrols t.plant bytes
    → (x y : List ℤ) (k : ℕ) (samples : List LoopSample) → IsRank t x k → IsPatrolLoop t x samples u y
    → IsClear t.plant y × AlwaysAnswers u y × (k ≤ length samples → Any (EndsTurn t) (take k samples))
