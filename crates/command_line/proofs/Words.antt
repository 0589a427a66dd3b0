-- The arguments of a command line.
use Rattle.std.proofs.Common.{◌≡◌, ℕ, ◌^◌, ◌<◌, ◌≤◌, List, [], ◌∷◌, length, Option, Some, None, refl, ap, sym, ◌∙◌, arith}
use Rattle.std.specs.Prelude.{codes, ℤ, sum_by, IfNone}
use Rattle.std.specs.Fmt.{decimal, signed_decimal}
use Rattle.std.proofs.lemmas.Fmt.{decimal_injective}
use Rattle.std.proofs.lemmas.List.{length-map}
use Rattle.command_line.specs.declared.command.Command.{Command}
use Rattle.command_line.specs.declared.command.Command.TheVariants.{Synth, Check, Upgrade, Sim, Demo, Stay, Patrol}
use Rattle.command_line.specs.Command.{IsDemoNumber, IsOfCommand}
use Rattle.base.specs.Workers.{AreWorkers}
use Rattle.command_line.specs.inside.ArgumentSpelling.{Spell}
use Rattle.command_line.proofs.Spellings.{one_spelling}

-- ---- arguments are of one command

second : {a b c d : List ℕ} → (a ∷ b ∷ []) ≡ (c ∷ d ∷ []) → b ≡ d
second e = cc

first : {a b c d : List ℕ} → (a ∷ b ∷ []) ≡ (c ∷ d ∷ []) → a ≡ c
first e = cc

third : {a b c d e f : List ℕ} → (a ∷ b ∷ c ∷ []) ≡ (d ∷ e ∷ f ∷ []) → (a ≡ d) × (b ≡ e) × (c ≡ f)
third e = (cc, cc, cc)

one_or_three : {a b c d : List ℕ} → (a ∷ []) ≡ (b ∷ c ∷ d ∷ []) → ⊥
one_or_three e = cc

two_or_three : {a b c d e : List ℕ} → (a ∷ b ∷ []) ≡ (c ∷ d ∷ e ∷ []) → ⊥
two_or_three e = cc

one_or_two : {a b c : List ℕ} → (a ∷ []) ≡ (b ∷ c ∷ []) → ⊥
one_or_two e = cc

check_or_upgrade : (codes "check" ∷ []) ≡ (codes "upgrade" ∷ []) → ⊥
check_or_upgrade e = let lengths : 5 ≡ 7 = ap (λ (arguments : List (List ℕ)). sum_by length arguments) e in omega (arith, lengths)

-- the arguments of a command with two: a command and a number of workers
abbrev IsOfTwo : List (List ℕ) → List ℕ → ℕ → Type 0
IsOfTwo arguments name workers = (arguments ≡ name ∷ decimal workers ∷ []) × AreWorkers workers

same_workers : (arguments : List (List ℕ)) (name : List ℕ) (m n : ℕ) → IsOfTwo arguments name m → IsOfTwo arguments name n → m ≡ n
same_workers arguments name m n h k = decimal_injective m n (omega (arith, h.1.1)) (omega (arith, k.1.1)) (second (sym h.0 ∙ k.0))

-- commands of unlike lengths
other_name : (arguments : List (List ℕ)) (a b : List ℕ) (m n : ℕ) → (length a ≡ length b → ⊥) → IsOfTwo arguments a m → IsOfTwo arguments b n → ⊥
other_name arguments a b m n unlike h k = unlike (ap length (first (sym h.0 ∙ k.0)))

-- two arguments are not one, nor three, nor those of `sim`
not_one : (arguments : List (List ℕ)) (name other : List ℕ) (m : ℕ) → IsOfTwo arguments name m → arguments ≡ other ∷ [] → ⊥
not_one arguments name other m h k = one_or_two (sym k ∙ h.0)

not_three : (arguments : List (List ℕ)) (name : List ℕ) (m number workers : ℕ) → IsOfTwo arguments name m → IsOfCommand arguments (Demo number workers) → ⊥
not_three arguments name m number workers h k = two_or_three (sym h.0 ∙ k.0)

after : {a b c d e f : List ℕ} {rest others : List (List ℕ)} → (a ∷ b ∷ c ∷ rest) ≡ (d ∷ e ∷ f ∷ others) → (b ≡ e) × (c ≡ f) × (rest ≡ others)
after e = (cc, cc, cc)

-- `sim` has four arguments at least
not_sim : (arguments : List (List ℕ)) (samples seed : ℕ) (start : List ℤ) → length arguments ≤ 3 → IsOfCommand arguments (Sim samples seed start) → ⊥
not_sim arguments samples seed start few h = let some = h.3.some in omega (arith, few, ap length h.0, length-map start signed_decimal, some)

pub one_command : (arguments : List (List ℕ)) (f g : Command) → IsOfCommand arguments f → IsOfCommand arguments g → f ≡ g
one_command arguments (Synth m) (Synth n) h k = ap Synth (decimal_injective m n (omega (arith, h.1.1)) (omega (arith, k.1.1)) (second (sym h.0 ∙ k.0)))
one_command arguments (Synth m) Check h k = absurd (one_or_two (sym k ∙ h.0))
one_command arguments Check (Synth n) h k = absurd (one_or_two (sym h ∙ k.0))
one_command arguments Check Check h k = refl
one_command arguments Check Upgrade h k = absurd (check_or_upgrade (sym h ∙ k))
one_command arguments Upgrade Check h k = absurd (check_or_upgrade (sym k ∙ h))
one_command arguments Upgrade Upgrade h k = refl
one_command arguments (Synth m) Upgrade h k = absurd (one_or_two (sym k ∙ h.0))
one_command arguments Upgrade (Synth n) h k = absurd (one_or_two (sym h ∙ k.0))
one_command arguments Upgrade (Demo n w) h k = absurd (one_or_three (sym h ∙ k.0))
one_command arguments (Demo n w) Upgrade h k = absurd (one_or_three (sym k ∙ h.0))
one_command arguments Upgrade (Sim samples seed start) h k = absurd (not_sim arguments samples seed start (omega (arith, ap length h)) k)
one_command arguments (Sim samples seed start) Upgrade h k = absurd (not_sim arguments samples seed start (omega (arith, ap length k)) h)
one_command arguments (Synth m) (Demo n w) h k = absurd (two_or_three (sym h.0 ∙ k.0))
one_command arguments Check (Demo n w) h k = absurd (one_or_three (sym h ∙ k.0))
one_command arguments (Demo n w) (Synth m) h k = absurd (two_or_three (sym k.0 ∙ h.0))
one_command arguments (Demo n w) Check h k = absurd (one_or_three (sym k ∙ h.0))
one_command arguments (Synth m) (Sim samples seed start) h k = absurd (not_sim arguments samples seed start (omega (arith, ap length h.0)) k)
one_command arguments Check (Sim samples seed start) h k = absurd (not_sim arguments samples seed start (omega (arith, ap length h)) k)
one_command arguments (Demo m v) (Sim samples seed start) h k = absurd (not_sim arguments samples seed start (omega (arith, ap length h.0)) k)
one_command arguments (Sim samples seed start) (Synth n) h k = absurd (not_sim arguments samples seed start (omega (arith, ap length k.0)) h)
one_command arguments (Sim samples seed start) Check h k = absurd (not_sim arguments samples seed start (omega (arith, ap length k)) h)
one_command arguments (Sim samples seed start) (Demo n w) h k = absurd (not_sim arguments samples seed start (omega (arith, ap length k.0)) h)
one_command arguments (Sim m s xs) (Sim n r ys) h k =
    let same = after (sym h.0 ∙ k.0) in
    ap (λ (x : ℕ). Sim x s xs) (decimal_injective m n (omega (arith, h.1)) (omega (arith, k.1)) same.0)
    ∙ ap (λ (x : ℕ). Sim n x xs) (decimal_injective s r h.2 k.2 same.1)
    ∙ ap (λ (zs : List ℤ). Sim n r zs) (one_spelling xs ys h.3.each k.3.each same.2)
one_command arguments (Demo m v) (Demo n w) h k =
    let same = third (sym h.0 ∙ k.0) in
    ap (λ (x : ℕ). Demo x v) (decimal_injective m n (omega (arith, h.1.1)) (omega (arith, k.1.1)) same.1) ∙ ap (λ (x : ℕ). Demo n x) (decimal_injective v w (omega (arith, h.2.1)) (omega (arith, k.2.1)) same.2)
one_command arguments (Stay m) (Stay n) h k = ap Stay (same_workers arguments (codes "stay") m n h k)
one_command arguments (Patrol m) (Patrol n) h k = ap Patrol (same_workers arguments (codes "patrol") m n h k)
one_command arguments (Synth m) (Stay n) h k = absurd (other_name arguments (codes "synth") (codes "stay") m n (λ e. omega (arith, e)) h k)
one_command arguments (Synth m) (Patrol n) h k = absurd (other_name arguments (codes "synth") (codes "patrol") m n (λ e. omega (arith, e)) h k)
one_command arguments (Stay m) (Synth n) h k = absurd (other_name arguments (codes "stay") (codes "synth") m n (λ e. omega (arith, e)) h k)
one_command arguments (Stay m) (Patrol n) h k = absurd (other_name arguments (codes "stay") (codes "patrol") m n (λ e. omega (arith, e)) h k)
one_command arguments (Patrol m) (Synth n) h k = absurd (other_name arguments (codes "patrol") (codes "synth") m n (λ e. omega (arith, e)) h k)
one_command arguments (Patrol m) (Stay n) h k = absurd (other_name arguments (codes "patrol") (codes "stay") m n (λ e. omega (arith, e)) h k)
one_command arguments (Stay m) Check h k = absurd (not_one arguments (codes "stay") (codes "check") m h k)
one_command arguments Check (Stay m) h k = absurd (not_one arguments (codes "stay") (codes "check") m k h)
one_command arguments (Stay m) Upgrade h k = absurd (not_one arguments (codes "stay") (codes "upgrade") m h k)
one_command arguments Upgrade (Stay m) h k = absurd (not_one arguments (codes "stay") (codes "upgrade") m k h)
one_command arguments (Stay m) (Demo n w) h k = absurd (not_three arguments (codes "stay") m n w h k)
one_command arguments (Demo n w) (Stay m) h k = absurd (not_three arguments (codes "stay") m n w k h)
one_command arguments (Stay m) (Sim samples seed start) h k = absurd (not_sim arguments samples seed start (omega (arith, ap length h.0)) k)
one_command arguments (Sim samples seed start) (Stay m) h k = absurd (not_sim arguments samples seed start (omega (arith, ap length k.0)) h)
one_command arguments (Patrol m) Check h k = absurd (not_one arguments (codes "patrol") (codes "check") m h k)
one_command arguments Check (Patrol m) h k = absurd (not_one arguments (codes "patrol") (codes "check") m k h)
one_command arguments (Patrol m) Upgrade h k = absurd (not_one arguments (codes "patrol") (codes "upgrade") m h k)
one_command arguments Upgrade (Patrol m) h k = absurd (not_one arguments (codes "patrol") (codes "upgrade") m k h)
one_command arguments (Patrol m) (Demo n w) h k = absurd (not_three arguments (codes "patrol") m n w h k)
one_command arguments (Demo n w) (Patrol m) h k = absurd (not_three arguments (codes "patrol") m n w k h)
one_command arguments (Patrol m) (Sim samples seed start) h k = absurd (not_sim arguments samples seed start (omega (arith, ap length h.0)) k)
one_command arguments (Sim samples seed start) (Patrol m) h k = absurd (not_sim arguments samples seed start (omega (arith, ap length k.0)) h)

-- ---- the commands with two arguments

pub is_of_two : (name workers spelling : List ℕ) (n : ℕ) → name ≡ spelling → AreWorkers n → workers ≡ decimal n → IsOfTwo (name ∷ workers ∷ []) spelling n
is_of_two name workers spelling n c few w = (rw (c, w) refl, few)

-- no command with two arguments, by each command
pub no_command : (name workers : List ℕ) → ((n : ℕ) → AreWorkers n → workers ≡ decimal n → (name ≡ codes "synth" → ⊥) × (name ≡ codes "stay" → ⊥) × (name ≡ codes "patrol" → ⊥)) → (f : Command) → IsOfCommand (name ∷ workers ∷ []) f → ⊥
no_command name workers other (Synth n) h = (other n h.1 (second h.0)).0 (first h.0)
no_command name workers other (Stay n) h = (other n h.1 (second h.0)).1 (first h.0)
no_command name workers other (Patrol n) h = (other n h.1 (second h.0)).2 (first h.0)
no_command name workers other Check h = one_or_two (sym h)
no_command name workers other Upgrade h = one_or_two (sym h)
no_command name workers other (Sim samples seed start) h = not_sim (name ∷ workers ∷ []) samples seed start (omega arith) h
no_command name workers other (Demo n w) h = two_or_three h.0

-- ---- the commands with three arguments

pub is_demo_command : (name number workers : List ℕ) (n w : ℕ) → name ≡ codes "demo" → IsDemoNumber n → number ≡ decimal n → AreWorkers w → workers ≡ decimal w → IsOfCommand (name ∷ number ∷ workers ∷ []) (Demo n w)
is_demo_command name number workers n w c bounds d few e = (rw (c, d, e) refl, bounds, few)

-- a command with three arguments is `demo`, with the number of a demo plant and a number of workers
pub no_demo_command : (name number workers : List ℕ) → (name ≡ codes "demo" → (n : ℕ) → IsDemoNumber n → number ≡ decimal n → (w : ℕ) → AreWorkers w → workers ≡ decimal w → ⊥) → (f : Command) → IsOfCommand (name ∷ number ∷ workers ∷ []) f → ⊥
no_demo_command name number workers other (Synth n) h = two_or_three (sym h.0)
no_demo_command name number workers other (Stay n) h = two_or_three (sym h.0)
no_demo_command name number workers other (Patrol n) h = two_or_three (sym h.0)
no_demo_command name number workers other Check h = one_or_three (sym h)
no_demo_command name number workers other Upgrade h = one_or_three (sym h)
no_demo_command name number workers other (Demo n w) h = let same = third h.0 in other same.0 n h.1 same.1 w h.2 same.2
no_demo_command name number workers other (Sim samples seed start) h = not_sim (name ∷ number ∷ workers ∷ []) samples seed start (omega arith) h

-- ---- the commands with four arguments and more

-- a command with four arguments or more is `sim`
pub no_sim_command : (name samples seed : List ℕ) (numbers : List (List ℕ)) → 1 ≤ length numbers → ((m s : ℕ) (start : List ℤ) → name ≡ codes "sim" → samples ≡ decimal m → m ≤ 1000000 → seed ≡ decimal s → s < 2 ^ 64 → Spell numbers start → ⊥)
    → (f : Command) → IsOfCommand (name ∷ samples ∷ seed ∷ numbers) f → ⊥
no_sim_command name samples seed numbers some other (Synth n) h = omega (arith, some, ap length h.0)
no_sim_command name samples seed numbers some other (Stay n) h = omega (arith, some, ap length h.0)
no_sim_command name samples seed numbers some other (Patrol n) h = omega (arith, some, ap length h.0)
no_sim_command name samples seed numbers some other Check h = omega (arith, some, ap length h)
no_sim_command name samples seed numbers some other Upgrade h = omega (arith, some, ap length h)
no_sim_command name samples seed numbers some other (Demo n w) h = omega (arith, some, ap length h.0)
no_sim_command name samples seed numbers some other (Sim m s start) h =
    let same = after h.0 in
    let first : name ≡ codes "sim" = cc (h.0) in
    other m s start first same.0 h.1 same.1 h.2 (record { spelled = same.2; each = h.3.each })

-- ---- arguments that are passed on

pub where_none : {A : Type 0} (r : Option A) (P : Type 0) → P → IfNone r P
where_none (Some x) P h = tt
where_none None P h = h
