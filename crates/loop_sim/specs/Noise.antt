-- The noises of a trace, drawn by MMIX's linear congruential generator (Knuth).
use Rattle.std.specs.Prelude.{ℕ, zero, suc, ◌+◌, ◌*◌, ◌/◌, ◌%◌, ◌^◌, ℤ, pos, nat_abs, ◌+ℤ◌, ◌-ℤ◌, List, [], ◌∷◌, length}
use Rattle.plant_record.specs.declared.variables.NoiseVariable.{NoiseVariable}
use Rattle.plant_record.specs.Description.{Description}

-- the state that follows a state of the generator
abbrev pub next_state : ℕ → ℕ
next_state s = (s * 6364136223846793005 + 1442695040888963407) % 2 ^ 64

-- the generator's state after k steps from a seed
abbrev pub generator : ℕ → ℕ → ℕ
generator seed zero = seed
generator seed (suc k) = next_state (generator seed k)

-- the noise that a state of the generator gives: the state without its lowest 33 bits, as a number of the range
abbrev pub noise_of : NoiseVariable → ℕ → ℤ
noise_of v s = v.low +ℤ pos (s / 2 ^ 33 % (nat_abs (v.high -ℤ v.low) + 1))

-- the noises of some variables where the generator has taken k steps before: one further step for each
abbrev pub noises_from : List NoiseVariable → ℕ → ℕ → List ℤ
noises_from [] seed k = []
noises_from (v ∷ noises) seed k = noise_of v (generator seed (suc k)) ∷ noises_from noises seed (suc k)

-- the noises of the sample at time t: each sample before it took a step for each variable
abbrev pub noises_at : Description → ℕ → ℕ → List ℤ
noises_at p seed t = noises_from p.noises seed (t * length p.noises)
