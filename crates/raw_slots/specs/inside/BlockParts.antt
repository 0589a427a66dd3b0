-- What holds of the parts of a block.
use Rattle.std.specs.Prelude.{◌≡◌}
use Rattle.raw_slots.specs.declared.block.Block.TheInside.{Inside}

-- the deed is that of the slots, and of the block's allocator
pub record IsWhole {T : Type 0} (b : Inside T) : Type 0 where
  pub start : b.deed.at ≡ b.part.slots.at
  pub count : b.deed.len ≡ b.part.len
  pub owner : b.deed.alloc ≡ b.alloc
