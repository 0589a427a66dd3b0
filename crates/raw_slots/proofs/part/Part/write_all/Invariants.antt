use Rattle.std.proofs.Common.{◌≡◌, ℕ, ◌<◌, ◌≤◌, Some, None, length, get_or}
use Rattle.raw_slots.proofs.part.Part.write_all.Given as goal

-- the slots so far hold the items, and no other does
abbrev pub invariant-loop-k : goal.invariant-loop-k
invariant-loop-k g l = record {
  address : l.self.slots.at ≡ l.fn.self.slots.at;
  many : length l.self.slots.contents ≡ length l.items;
  written : (i : ℕ) (d : _) → i < l.k → get_or l.self.slots.contents i None ≡ Some (get_or l.items i d);
  empty : (i : ℕ) → l.k ≤ i → i < length l.items → get_or l.self.slots.contents i None ≡ None;
}
