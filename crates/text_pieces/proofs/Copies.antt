-- A text is put into a buffer by copies of some bytes.
use Rattle.std.proofs.Common.{◌≡◌, ℕ, ◌+◌, ◌≤◌, List, ◌++◌, length, take, drop, sym, ap, ◌∙◌, append_assoc, arith, length-append}
use Rattle.std.proofs.Math.Seq.{take-add, take-append-add, take-append_seam}
use Rattle.std.proofs.lemmas.List.{length-take}
use borrow.Rule.Slice.PartMut.{put_mid, post_of}

front_length : (n : ℕ) (xs : List ℕ) → n ≤ length xs → length (take n xs) ≡ n
front_length n xs le = omega (arith, length-take n xs)

-- the buffer with one more piece of the text
pub more_pieces : (text buf new mid : List ℕ) (filled count capacity : ℕ) → filled ≤ length buf → filled + count ≤ length text → take filled buf ≡ take filled text → new ≡ take count (drop filled text) ++ drop count mid → count ≤ length (drop filled text) → take (filled + count) (put_mid filled capacity buf new) ≡ take (filled + count) text
more_pieces text buf new mid filled count capacity le enough same copied within =
    let front = front_length filled buf le in
    let piece = front_length count (drop filled text) within in
    ap (λ (n : ℕ). take (n + count) (put_mid filled capacity buf new)) (sym front)
    ∙ take-append-add (take filled buf) (new ++ post_of filled capacity buf) count
    ∙ ap (λ (x : List ℕ). take filled buf ++ take count (x ++ post_of filled capacity buf)) copied
    ∙ ap (λ (x : List ℕ). take filled buf ++ take count x) (append_assoc (take count (drop filled text)) (drop count mid) (post_of filled capacity buf))
    ∙ ap (λ (n : ℕ). take filled buf ++ take n (take count (drop filled text) ++ (drop count mid ++ post_of filled capacity buf))) (sym piece)
    ∙ ap (λ (x : List ℕ). take filled buf ++ x) (take-append_seam (take count (drop filled text)) (drop count mid ++ post_of filled capacity buf))
    ∙ ap (λ (x : List ℕ). x ++ take count (drop filled text)) same
    ∙ sym (take-add filled count text)

pub capacity_for : (buf new : List ℕ) (filled count capacity : ℕ) → filled ≤ length buf → count ≤ length new → filled + count ≤ length (put_mid filled capacity buf new)
capacity_for buf new filled count capacity le within =
    let whole = length-append (take filled buf) (new ++ post_of filled capacity buf) in
    let rest = length-append new (post_of filled capacity buf) in
    let front = front_length filled buf le in
    omega (arith, whole, rest, front)

pub piece_length : (text new mid : List ℕ) (count : ℕ) → count ≤ length text → new ≡ take count text ++ drop count mid → count ≤ length new
piece_length text new mid count le copied =
    let front = front_length count text le in
    omega (arith, ap length copied, length-append (take count text) (drop count mid), front)
