-- A box, or none, as two numbers.
use Rattle.std.specs.Prelude.{◌≡◌, ℕ, ◌≤◌, eqb, Option, Some, None, if◌then◌else◌}
use Rattle.std.proofs.Common.{refl, sym, Bool, true, false, arith}
use Rattle.std.proofs.lemmas.Bool.{eqb-true}
use Rattle.grid_quantiser.specs.declared.boxes.CellBox.{CellBox}
use Rattle.pair_box.specs.declared.pair_box.PairBox.TheInside.{Inside}
use Rattle.pair_box.specs.declared.pair_box.TheConstants.{NO_BOX}

-- the box of two numbers, none where the first is the greatest there is
abbrev pub box_in : ℕ → ℕ → Option CellBox
box_in first last = if eqb first NO_BOX then None else Some (record { first = first; last = last })

-- the numbers are in order, so where there is no box the other is the greatest too
abbrev pub IsPacked : ℕ → ℕ → Type 0
IsPacked first last = (first ≤ last) × (last ≤ NO_BOX)

-- the first cell of a box as it is packed, NO_BOX where there is no box
abbrev pub first_in : Option CellBox → ℕ
first_in None = NO_BOX
first_in (Some b) = b.first

-- the last cell of a box as it is packed, NO_BOX where there is no box
abbrev pub last_in : Option CellBox → ℕ
last_in None = NO_BOX
last_in (Some b) = b.last

pub unpacked : (p : Inside) → IsPacked p.first p.last → ◌≡◌ {A = Inside} (record { first = first_in (box_in p.first p.last); last = last_in (box_in p.first p.last) }) p
unpacked p kept = by (eqb p.first NO_BOX) refl
  where
    by : (b : Bool) → eqb p.first NO_BOX ≡ b → ◌≡◌ {A = Inside} (record { first = first_in (if b then None else Some (record { first = p.first; last = p.last })); last = last_in (if b then None else Some (record { first = p.first; last = p.last })) }) p
    by true e =
        let first : p.first ≡ NO_BOX = eqb-true p.first NO_BOX e in
        let last : p.last ≡ NO_BOX = omega (arith, kept, first) in
        λ i. record { first = sym first i; last = sym last i }
    by false e = refl
