-- How far a source was read when reading it ended.
use Rattle.std.proofs.Common.{◌≡◌, ℕ, ◌+◌, ◌≤◌, List, length, drop, Option, Some, None, sym, ap, ◌∙◌}
use Rattle.std.proofs.Math.Seq.{drop-append_seam, drop-append-add}
use Rattle.std.specs.Io.KnownBytes.{Keeps}
use Rattle.run_devices.specs.Devices.{Takes, TakesAtMost}
use Rattle.run_devices.proofs.SoFar.{ReadSoFar}

-- all that was read was kept
pub taken_so_far : (before after : Option (List ℕ)) (bytes : List ℕ) (most : ℕ) → ReadSoFar before after bytes → length bytes ≤ most → TakesAtMost before after most
taken_so_far None after bytes most so_far within = tt
taken_so_far (Some told) after bytes most so_far within =
    (length bytes, within, so_far.2 ∙ ap (λ (xs : List ℕ). Some xs) (sym (ap (drop (length bytes)) so_far.1 ∙ drop-append_seam bytes so_far.0)))

-- the next read failed
pub taken_till_fault : (before now after : Option (List ℕ)) (bytes : List ℕ) (most : ℕ) → ReadSoFar before now bytes → Keeps now after → length bytes ≤ most → TakesAtMost before after most
taken_till_fault None now after bytes most so_far kept within = tt
taken_till_fault (Some told) now after bytes most so_far kept within = taken_so_far (Some told) after bytes most (so_far.0, so_far.1, same now after so_far.2 kept) within
  where
    same : (now after : Option (List ℕ)) → now ≡ Some so_far.0 → Keeps now after → after ≡ Some so_far.0
    same None after e kept = absurd (let clash : None ≡ Some so_far.0 = e in cc)
    same (Some xs) None e kept = absurd kept
    same (Some xs) (Some ys) e kept = ap (λ (zs : List ℕ). Some zs) kept ∙ e

-- the next read took n bytes more, which found no capacity
pub taken_past : (before now after : Option (List ℕ)) (bytes buffer : List ℕ) (n most : ℕ) → ReadSoFar before now bytes → Takes now after n buffer → length bytes + n ≤ most → TakesAtMost before after most
taken_past None now after bytes buffer n most so_far takes within = tt
taken_past (Some told) now after bytes buffer n most so_far takes within =
    (length bytes + n, within, more now so_far.2 takes ∙ ap (λ (xs : List ℕ). Some xs) (sym (ap (drop (length bytes + n)) so_far.1 ∙ drop-append-add bytes so_far.0 n)))
  where
    more : (now : Option (List ℕ)) → now ≡ Some so_far.0 → Takes now after n buffer → after ≡ Some (drop n so_far.0)
    more None e takes = absurd (let clash : None ≡ Some so_far.0 = e in cc)
    more (Some xs) e takes = takes.1 ∙ (let same : Some xs ≡ Some so_far.0 = e in cc)
