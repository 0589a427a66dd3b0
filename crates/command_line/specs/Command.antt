-- The commands of the command line. Each word is a case of `Command`, and a case of each definition here.
use Rattle.std.specs.Prelude.{◌≡◌, ℕ, ◌^◌, ◌<◌, ◌≤◌, ℤ, List, [], ◌∷◌, length, map, codes}
use Rattle.base.specs.Workers.{AreWorkers}
use Rattle.std.specs.List.{All}
use Rattle.std.specs.Borrow.{Bor}
use Rattle.std.specs.Fmt.{decimal, signed_decimal}
use Rattle.line_words.specs.Numbers.{IsLiteral}
use Rattle.command_line.specs.declared.command.Command.{Command}
use Rattle.command_line.specs.declared.command.Command.TheVariants.{Synth, Check, Upgrade, Sim, Demo, Stay, Patrol}
use Rattle.base.specs.declared.limits.TheConstants.{DEMO_LIMIT, SAMPLES_LIMIT, STATES_LIMIT}

-- The numbers of a state, as they are given for any plant: one to six of at most 18 digits.
pub record AreStateNumbers (numbers : List ℤ) : Type 0 where
  pub some : 1 ≤ length numbers
  pub most : length numbers ≤ STATES_LIMIT
  pub each : All IsLiteral numbers

-- the numbers of demo plants
abbrev pub IsDemoNumber : ℕ → Type 0
IsDemoNumber n = (1 ≤ n) × (n ≤ DEMO_LIMIT)

-- the arguments of a command line, as the bytes of each
abbrev pub as_words : List (Bor (List ℕ)) → List (List ℕ)
as_words arguments = map (λ (word : Bor (List ℕ)). word.now) arguments

-- the arguments are of a command
abbrev pub IsOfCommand : List (List ℕ) → Command → Type 0
IsOfCommand arguments (Synth workers) = (arguments ≡ codes "synth" ∷ decimal workers ∷ []) × AreWorkers workers
IsOfCommand arguments Check = arguments ≡ codes "check" ∷ []
IsOfCommand arguments Upgrade = arguments ≡ codes "upgrade" ∷ []
IsOfCommand arguments (Sim samples seed start) =
    (arguments ≡ codes "sim" ∷ decimal samples ∷ decimal seed ∷ map signed_decimal start) × (samples ≤ SAMPLES_LIMIT) × (seed < 2 ^ 64) × AreStateNumbers start
IsOfCommand arguments (Demo number workers) = (arguments ≡ codes "demo" ∷ decimal number ∷ decimal workers ∷ []) × IsDemoNumber number × AreWorkers workers
IsOfCommand arguments (Stay workers) = (arguments ≡ codes "stay" ∷ decimal workers ∷ []) × AreWorkers workers
IsOfCommand arguments (Patrol workers) = (arguments ≡ codes "patrol" ∷ decimal workers ∷ []) × AreWorkers workers

-- the arguments are of no command
abbrev pub AreOfNoCommand : List (List ℕ) → Type 0
AreOfNoCommand arguments = (command : Command) → IsOfCommand arguments command → ⊥
