-- Parts of a list that make whole chunks, and their halves.
use Rattle.std.proofs.Common.{◌≡◌, ℕ, ◌+◌, ◌-◌, ◌*◌, ◌/◌, ◌%◌, ◌^◌, ◌<◌, ◌≤◌, inl, inr, min, List, length, take, drop, get_or, replicate, refl, sym, ap, subst, ◌∙◌, arith}
use Rattle.std.proofs.Math.Nat.{add-mul, one-mul, div-add-mod'}
use Rattle.std.proofs.lemmas.Bool.{cases_lt}
use Rattle.std.proofs.lemmas.Nat.{mod-mul-add, mod_below, mul-le, column_fits_turned}
use Rattle.std.proofs.lemmas.List.{length-replicate, take-replicate, drop-replicate, take_all, get_or-replicate}
use Rattle.std.specs.Fork.{IsChunk}
use Rattle.raw_slots.specs.inside.Chunks.{IsStretch}

-- a chunk that begins earlier is an earlier one
earlier : (n m size : ℕ) → n * size < m * size → n < m
earlier n m size lt = elim (cases_lt n m) [
  | inl below ↦ below
  | inr up ↦ omega (arith, lt, mul-le m size n size up (omega arith))
]

-- how many chunks a list has
counted : (count len size : ℕ) → 0 < size → count ≡ len / size + min 1 (len % size) → (len ≤ count * size) × (count * size < len + size)
counted count len size some is =
    let q = len / size in
    let parts : q * size + len % size ≡ len = div-add-mod' len size in
    let below : len % size < size = mod_below len size some in
    elim (cases_lt 0 (len % size)) [
      | inl more ↦ let e = ap (λ n. n * size) (let e : count ≡ q + 1 = omega (arith, is, more) in e) ∙ add-mul q 1 size in let o = one-mul size in (omega arith, omega arith)
      | inr none ↦ let e = ap (λ n. n * size) (let e : count ≡ q = omega (arith, is, none) in e) in (omega arith, omega arith)
    ]

-- a list that is not empty is one stretch
pub whole_list : (size len count : ℕ) → 0 < size → 0 < len → len < 2 ^ 64 → count ≡ len / size + min 1 (len % size) → IsStretch size len 0 count len
whole_list size len count some filled small is =
    let c = counted count len size some is in
    let any : 0 < count = elim (cases_lt 0 count) [
      | inl up ↦ up
      | inr none ↦ omega (arith, c.0, filled, ap (λ n. n * size) (let e : count ≡ 0 = omega (arith, none) in e))
    ] in
    record { begins = (0, omega arith); some = (some, any); covered = c; within = omega arith; small = omega (arith, small); whole = inl (omega arith) }

module _ (size total at count len : ℕ) (s : IsStretch size total at count len) where
  -- the length of the first chunk is that of a chunk there
  pub one_chunk_long : count ≡ 1 → (0 < len) × (len ≡ min size (total - at))
  one_chunk_long one =
      let e : count * size ≡ size = ap (λ n. n * size) one ∙ one-mul size in
      let filled : 0 < len = omega (arith, e, s.covered.1) in
      let long : len ≤ size = omega (arith, e, s.covered.0) in
      elim s.whole [
        | inl end ↦ (filled, omega (arith, end, long))
        | inr full ↦ (filled, omega (arith, e, full, s.within))
      ]

  -- so many of the same, all one chunk of many of them
  pub is_chunk : {X : Type 0} (x : X) (ys : List X) → count ≡ 1 → ys ≡ replicate len x → IsChunk (replicate total x) size at ys
  is_chunk x ys one are =
      let long = one_chunk_long one in
      let count_ys : length ys ≡ len = ap length are ∙ length-replicate len x in
      let count_xs : length (replicate total x) ≡ total = length-replicate total x in
      let multiple : at % size ≡ 0 = ap (λ n. n % size) (let e : at ≡ s.begins.0 * size + 0 = omega (arith, s.begins.1) in e) ∙ mod-mul-add s.begins.0 size 0 s.some.0 in
      let rest : drop at (replicate total x) ≡ replicate (total - at) x = drop-replicate at total x in
      let front : take size (replicate (total - at) x) ≡ replicate len x =
      elim (cases_lt (total - at) size) [
        | inl short ↦ take_all size (replicate (total - at) x) (omega (arith, length-replicate (total - at) x, short)) ∙ ap (λ n. replicate n x) (omega (arith, long.1, short))
        | inr full ↦ take-replicate size (total - at) x full ∙ ap (λ n. replicate n x) (omega (arith, long.1, full))
      ] in
      record {
        value = are ∙ sym (ap (take size) rest ∙ front);
        start_is_multiple = multiple;
        len = omega (arith, count_ys, count_xs, long.1);
        nonempty = omega (arith, count_ys, long.0);
        at_most_size = omega (arith, count_ys, long.1);
        in_bounds = omega (arith, count_ys, count_xs, s.within);
        full_size = λ whole.
            let q = total / size in
            let all : q * size ≡ total = omega (arith, div-add-mod' total size, subst (λ n. n % size ≡ 0) count_xs whole) in
            let next = column_fits_turned size s.begins.0 q size (earlier s.begins.0 q size (omega (arith, s.begins.1, all, s.within, long.0))) (omega arith) in
            omega (arith, count_ys, long.1, next, all, s.begins.1);
        elements = λ k d lt.
            ap (λ l. get_or l k d) are
            ∙ get_or-replicate len k x d (omega (arith, lt, count_ys))
            ∙ sym (get_or-replicate total (at + k) x d (omega (arith, lt, count_ys, s.within)));
      }

  module _ (low : ℕ) (some : 0 < low) (fewer : low < count) where
    -- the first chunks are shorter than all
    pub low_inside : low * size < len
    low_inside = omega (arith, column_fits_turned size low count size fewer (omega arith), s.covered.1)

    pub low_half : IsStretch size total at low (low * size)
    low_half = record { begins = s.begins; some = (s.some.0, some); covered = (omega arith, omega (arith, s.some.0)); within = omega (arith, low_inside, s.within); small = omega (arith, low_inside, s.small); whole = inr refl }

    pub high_half : IsStretch size total (at + low * size) (count - low) (len - low * size)
    high_half =
        let sum : count * size ≡ low * size + (count - low) * size = ap (λ n. n * size) (let e : count ≡ low + (count - low) = omega (arith, fewer) in e) ∙ add-mul low (count - low) size in
        record {
          begins = (s.begins.0 + low, omega (arith, s.begins.1, add-mul s.begins.0 low size));
          some = (s.some.0, omega (arith, fewer));
          covered = (omega (arith, sum, s.covered.0), omega (arith, sum, s.covered.1, low_inside));
          within = omega (arith, low_inside, s.within);
          small = omega (arith, low_inside, s.small);
          whole = elim s.whole [
            | inl end ↦ inl (omega (arith, end, low_inside))
            | inr full ↦ inr (omega (arith, full, sum))
          ];
        }
