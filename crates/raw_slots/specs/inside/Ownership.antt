-- What the parts of a block own and lend, at items of the row R.
use Rattle.std.specs.Prelude.{ℕ, ◌+◌, ◌*◌, ◌^◌, List, [], ◌∷◌, length, Option, Some, None}
use Rattle.std.specs.Mem.{type_size}
use base.Fraction.{full_share}
use base.Fml.{Lft, Fml, ftrue, ffalse, fsep, flt, froom}
use mir.Syntax.{Ty, ty_array}
use mir.Raw.{raw}
use denote.RattleType.{RattleType}
use denote.Memory.{lone, part_at, shared_of}
use denote.Sharing.{nothing, said, beside}
use denote.RawPtr.{Ptr, block_ptr, null_ptr}

module _ (R : RattleType) where
  -- one slot, o bytes into the block b
  abbrev pub slot : ℕ → ℕ → Option R.Denot → Fml
  slot b o (Some x) = part_at R full_share x b o
  slot b o None = froom (raw (lone R.mir)) b o

  -- slots side by side
  abbrev pub contents : ℕ → ℕ → List (Option R.Denot) → Fml
  contents b o [] = ftrue
  contents b o (c ∷ cs) = fsep (slot b o c) (contents b (o + type_size R) cs)

  abbrev pub slot_lent : ℕ → ℕ → Option R.Denot → Lft → Fml
  slot_lent b o (Some x) = shared_of R x b o
  slot_lent b o None = nothing

  abbrev pub contents_lent : ℕ → ℕ → List (Option R.Denot) → Lft → Fml
  contents_lent b o [] = nothing
  contents_lent b o (c ∷ cs) = beside (slot_lent b o c) (contents_lent b (o + type_size R) cs)

  -- the slots take fewer than 2 ^ 63 bytes
  abbrev pub fit : List (Option R.Denot) → Fml
  fit cs = flt (length cs * type_size R) (2 ^ 63)

  abbrev pub slots_own : Ptr → List (Option R.Denot) → Fml
  slots_own (block_ptr b o) cs = fsep (fit cs) (contents b o cs)
  slots_own null_ptr cs = ffalse

  abbrev pub slots_lent : Ptr → List (Option R.Denot) → Lft → Fml
  slots_lent (block_ptr b o) cs = beside (said (fit cs)) (contents_lent b o cs)
  slots_lent null_ptr cs = said ffalse

  -- the allocator's token for a block of n slots
  abbrev pub deed_owns : (Ty → Ptr → Fml) → Ptr → ℕ → Fml
  deed_owns token p n = token (raw (ty_array (lone R.mir) n)) p
