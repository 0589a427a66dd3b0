-- The values of the variables, position by position.
use Rattle.std.proofs.Common.{◌≡◌, ℕ, suc, ◌+◌, ◌<◌, ◌≤◌, List, [], ◌∷◌, ◌++◌, length, get_or, take, map, refl, sym, ap, ◌∙◌, arith}
use Rattle.std.specs.Prelude.{ℤ, pos}
use Rattle.std.proofs.lemmas.List.{length-map, length-append, length-take-le, get_or-take}
use Rattle.plant_record.specs.declared.variables.StateVariable.{StateVariable}
use Rattle.plant_record.specs.declared.variables.InputVariable.{InputVariable}
use Rattle.plant_record.specs.declared.variables.NoiseVariable.{NoiseVariable}
use Rattle.plant_record.specs.Description.{Description, names_of, vector_of}
use Rattle.plant_record.specs.Soundness.{VectorsHaveOneEach}
use Rattle.plant_record.specs.Steps.{values_at}
use Rattle.plant_record.proofs.lemmas.ListElements.{in_first, in_second, in_third}

-- how many variables there are
pub names_count : (p : Description) → length (names_of p) ≡ length p.states + length p.inputs + length p.noises
names_count p =
    let states = map (λ (s : StateVariable). s.name) p.states in
    let inputs = map (λ (i : InputVariable). i.name) p.inputs in
    let noises = map (λ (w : NoiseVariable). w.name) p.noises in
    let a : length states ≡ length p.states = length-map p.states (λ (s : StateVariable). s.name) in
    let b : length inputs ≡ length p.inputs = length-map p.inputs (λ (i : InputVariable). i.name) in
    let d : length noises ≡ length p.noises = length-map p.noises (λ (w : NoiseVariable). w.name) in
    omega (arith, length-append (states ++ inputs) noises, length-append states inputs, a, b, d)

pub vector_length : VectorsHaveOneEach
vector_length [] u = refl
vector_length (i ∷ inputs) u = ap suc (vector_length inputs _)

-- the values of the variables, in points of enough numbers
pub values_count : (p : Description) (x w : List ℤ) (u : ℕ) → length p.states ≤ length x → length p.noises ≤ length w → length (values_at p x u w) ≡ length p.states + length p.inputs + length p.noises
values_count p x w u enough enough' =
    let states : List ℤ = take (length p.states) x in
    let noises : List ℤ = take (length p.noises) w in
    omega (arith, length-append (states ++ vector_of p.inputs u) noises, length-append states (vector_of p.inputs u), length-take-le (length p.states) x enough, vector_length p.inputs u, length-take-le (length p.noises) w enough')

module _ (p : Description) (x w : List ℤ) (u k i : ℕ) (enough : length p.states ≤ length x) where
  abbrev state_values : List ℤ
  state_values = take (length p.states) x

  abbrev noise_values : List ℤ
  noise_values = take (length p.noises) w

  states_long : length state_values ≡ length p.states
  states_long = length-take-le (length p.states) x enough

  pub state_value : k ≡ i → i < length p.states → get_or x i (pos 0) ≡ get_or (values_at p x u w) k (pos 0)
  state_value at lt = sym (in_first state_values (vector_of p.inputs u) noise_values k i (pos 0) at (omega (arith, lt, states_long)) ∙ get_or-take (length p.states) x i (pos 0) lt)

  pub input_value : k ≡ length p.states + i → i < length p.inputs → get_or (vector_of p.inputs u) i (pos 0) ≡ get_or (values_at p x u w) k (pos 0)
  input_value at lt = sym (in_second state_values (vector_of p.inputs u) noise_values k i (pos 0) (length p.states) states_long at (omega (arith, lt, vector_length p.inputs u)))

  pub noise_value : k ≡ length p.states + length p.inputs + i → i < length p.noises → get_or w i (pos 0) ≡ get_or (values_at p x u w) k (pos 0)
  noise_value at lt =
      sym (in_third state_values (vector_of p.inputs u) noise_values k i (pos 0) (length p.states) (length p.inputs) states_long (vector_length p.inputs u) at
      ∙ get_or-take (length p.noises) w i (pos 0) lt)
