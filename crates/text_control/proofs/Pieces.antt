-- Pieces of one size, one of which is written.
use Rattle.std.proofs.Common.{◌≡◌, ℕ, ◌+◌, ◌-◌, ◌*◌, ◌<◌, ◌≤◌, List, ◌++◌, length, take, drop, sym, ap, ◌∙◌, arith}
use Rattle.std.specs.Prelude.{ℤ}
use Rattle.std.specs.List.{between}
use Rattle.std.proofs.lemmas.List.{drop-take, drop-drop, length-append, length-drop, length-take-le}
use Rattle.std.proofs.lemmas.Slice.{take-put_mid_below, between-put_mid, drop-put_mid}
use borrow.Rule.Slice.PartMut.{put_mid}
use Rattle.text_control.specs.Each.{piece}
use Rattle.base.proofs.Products.{part_fits}

-- a piece ends where the next one begins
pub next : (k size : ℕ) → (k + 1) * size ≡ k * size + size
next k size = omega (arith)

pub width : (k size : ℕ) → (k + 1) * size - k * size ≡ size
width k size = omega (arith, next k size)

pub piece_is : (k size : ℕ) (xs : List ℤ) → between (k * size) ((k + 1) * size) xs ≡ piece size k xs
piece_is k size xs = ap (λ (n : ℕ). take n (drop (k * size) xs)) (width k size)

module _ (k size wide : ℕ) (xs ys : List ℤ) (short : k * size ≤ length xs) where
  abbrev written : List ℤ
  written = put_mid (k * size) wide xs ys

  pub piece_other : (j : ℕ) → j < k → piece size j written ≡ piece size j xs
  piece_other j lt =
      sym (drop-take (j * size) size written)
      ∙ ap (drop (j * size)) (take-put_mid_below (k * size) wide xs ys (j * size + size) (part_fits j k size lt) short)
      ∙ drop-take (j * size) size xs

  pub piece_here : length ys ≡ size → piece size k written ≡ ys
  piece_here one =
      sym (piece_is k size written) ∙ between-put_mid (k * size) wide xs ys ((k + 1) * size) short (one ∙ sym (width k size))

  pub later_same : length ys ≡ size → wide ≡ size → drop ((k + 1) * size) written ≡ drop ((k + 1) * size) xs
  later_same one same = drop-put_mid (k * size) wide xs ys ((k + 1) * size) (omega (arith, same, next k size)) short (one ∙ sym same)

pub length_written : (a wide : ℕ) (xs ys : List ℤ) → a + wide ≤ length xs → length ys ≡ wide → length (put_mid a wide xs ys) ≡ length xs
length_written a wide xs ys short one =
    omega (arith, length-append (take a xs) (ys ++ drop wide (drop a xs)), length-append ys (drop wide (drop a xs)), length-take-le a xs (omega (arith, short)), length-drop wide (drop a xs), length-drop a xs, one, short)

pub drop_next : (k size : ℕ) (xs zs : List ℤ) → drop (k * size) xs ≡ drop (k * size) zs → drop ((k + 1) * size) xs ≡ drop ((k + 1) * size) zs
drop_next k size xs zs same =
    ap (λ (n : ℕ). drop n xs) (next k size) ∙ sym (drop-drop size (k * size) xs) ∙ ap (drop size) same ∙ drop-drop size (k * size) zs ∙ ap (λ (n : ℕ). drop n zs) (sym (next k size))
