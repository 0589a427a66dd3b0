-- Lemmas on how rows lie in one block, and what the fields of rows say of each row.
use Rattle.std.proofs.Common.{◌≡◌, ℕ, zero, suc, ◌+◌, ◌-◌, ◌<◌, ◌≤◌, List, [], ◌∷◌, ◌++◌, map, length, take, drop, get_or, set, replicate, sum, Option, Some, None, refl, sym, ap, ◌∙◌, arith, length-append, append_assoc, drop-drop, take_at, drop_at, ◌^◌, subst}
use Rattle.std.proofs.lemmas.List.{length-map, length-replicate, get_or-append_right, set-append_right, get_or_default}
use Rattle.std.proofs.lemmas.List.Sums.{sum_by-cons, sum_by_more, sum_by_more_le}
use Rattle.std.proofs.Math.ListN.{replicate-append-replicate, get_or-map}
use Rattle.std.proofs.Math.Seq.{set_at, get_or_at}
use Rattle.std.specs.List.{AllZip}
use Rattle.edge_rows.specs.Rows.{row_at, with_value, empty_rows, Filling, slots_left}
use Rattle.raw_slots.specs.Slots.{values, IsFilled}
use Rattle.edge_rows.specs.inside.Layout.{laid, starts_from, ends_from, gaps, rows_between, IsWithin}
use Rattle.edge_rows.specs.inside.FillFields.{filling_of, IsFilling}
use Rattle.edge_rows.specs.inside.RowsFields.{rows_of, IsStoredAs, IsRows}
use Rattle.edge_rows.specs.declared.fill.RowFill.TheInside.{Inside as FillInside}
use Rattle.edge_rows.specs.declared.rows.Rows.TheInside.{Inside}

abbrev pub Fits : List (List ℕ) → List ℕ → Type 0
Fits = AllZip (λ xs n. length xs ≤ n)

pub sum-cons : (n : ℕ) (ns : List ℕ) → sum (n ∷ ns) ≡ n + sum ns
sum-cons n ns = sum_by-cons (λ k. k) n ns

-- the first slot of the r-th row that is not written
abbrev pub end_of : List (List ℕ) → List ℕ → ℕ → ℕ
end_of rows ns r = sum (take r ns) + length (row_at rows r)

pub length-ends : (at : ℕ) (rows : List (List ℕ)) (ns : List ℕ) → Fits rows ns → length (ends_from at rows ns) ≡ length rows
length-ends at [] [] f = refl
length-ends at [] (n ∷ ns) f = absurd f
length-ends at (xs ∷ rows) [] f = absurd f
length-ends at (xs ∷ rows) (n ∷ ns) f = ap suc (length-ends (at + n) rows ns f.1)

pub length-starts : (at : ℕ) (ns : List ℕ) → length (starts_from at ns) ≡ suc (length ns)
length-starts at [] = refl
length-starts at (n ∷ ns) = ap suc (length-starts (at + n) ns)

pub length-laid : (rows : List (List ℕ)) (ns : List ℕ) → Fits rows ns → length (laid rows ns) ≡ sum ns
length-laid [] [] f = refl
length-laid [] (n ∷ ns) f = absurd f
length-laid (xs ∷ rows) [] f = absurd f
length-laid (xs ∷ rows) (n ∷ ns) f =
    let none : Option ℕ = None in let rest = laid rows ns in
    omega (
      arith,
      f.0,
      length-laid rows ns f.1,
      sum-cons n ns,
      length-append (map Some xs) (replicate (n - length xs) none ++ rest),
      length-append (replicate (n - length xs) none) rest,
      length-map xs Some,
      length-replicate (n - length xs) none,
    )

pub start_at : (at : ℕ) (ns : List ℕ) (r : ℕ) → r ≤ length ns → get_or (starts_from at ns) r 0 ≡ at + sum (take r ns)
start_at at [] zero le = omega arith
start_at at [] (suc r) le = absurd (omega arith)
start_at at (n ∷ ns) zero le = omega arith
start_at at (n ∷ ns) (suc r) le = omega (arith, start_at (at + n) ns r (omega arith), sum-cons n (take r ns))

pub end_at : (at : ℕ) (rows : List (List ℕ)) (ns : List ℕ) (r : ℕ) → Fits rows ns → r < length rows → get_or (ends_from at rows ns) r 0 ≡ at + end_of rows ns r
end_at at [] ns r f lt = absurd (omega arith)
end_at at (xs ∷ rows) [] r f lt = absurd f
end_at at (xs ∷ rows) (n ∷ ns) zero f lt = omega arith
end_at at (xs ∷ rows) (n ∷ ns) (suc r) f lt = omega (arith, end_at (at + n) rows ns r f.1 (omega arith), sum-cons n (take r ns))

gaps-cons : (at n : ℕ) (ns : List ℕ) → gaps (at ∷ starts_from (at + n) ns) ≡ n ∷ gaps (starts_from (at + n) ns)
gaps-cons at n [] = let e : at + n - at ≡ n = omega arith in ap (λ k. k ∷ []) e
gaps-cons at n (m ∷ ns) = let e : at + n - at ≡ n = omega arith in ap (λ k. k ∷ gaps (starts_from (at + n) (m ∷ ns))) e

pub gaps-starts : (at : ℕ) (ns : List ℕ) → gaps (starts_from at ns) ≡ ns
gaps-starts at [] = refl
gaps-starts at (n ∷ ns) = gaps-cons at n ns ∙ ap (λ l. n ∷ l) (gaps-starts (at + n) ns)

pub values-written : (xs : List ℕ) → values (map Some xs) ≡ xs
values-written [] = refl
values-written (x ∷ xs) = ap (λ l. x ∷ l) (values-written xs)

-- one row of n slots, before other slots
abbrev row_laid : List ℕ → ℕ → List (Option ℕ) → List (Option ℕ)
row_laid xs n rest = map Some xs ++ (replicate (n - length xs) None ++ rest)

past_row : (xs : List ℕ) (n : ℕ) (rest : List (Option ℕ)) (k m : ℕ) → length xs ≤ n → m ≡ n + k → drop m (row_laid xs n rest) ≡ drop k rest
past_row xs n rest k m le e =
    let none : Option ℕ = None in let empty = replicate (n - length xs) none in let row = map Some xs ++ empty in
    let long : length row ≡ n = omega (arith, length-append (map Some xs) empty, length-map xs Some, length-replicate (n - length xs) none) in
    ap (λ j. drop j (row_laid xs n rest)) e ∙ ap (drop (n + k)) (sym (append_assoc (map Some xs) empty rest)) ∙ sym (drop-drop k n (row ++ rest)) ∙ ap (drop k) (drop_at row rest n long)

get_past : (xs : List ℕ) (n : ℕ) (rest : List (Option ℕ)) (k m : ℕ) → length xs ≤ n → m ≡ n + k → get_or (row_laid xs n rest) m None ≡ get_or rest k None
get_past xs n rest k m le e =
    let none : Option ℕ = None in let empty = replicate (n - length xs) none in let row = map Some xs ++ empty in
    let long : length row ≡ n = omega (arith, length-append (map Some xs) empty, length-map xs Some, length-replicate (n - length xs) none) in
    let back : m - n ≡ k = omega arith in
    ap (λ l. get_or l m none) (sym (append_assoc (map Some xs) empty rest)) ∙ get_or-append_right row rest n m none long (omega arith) ∙ ap (λ j. get_or rest j none) back

set_past : (xs : List ℕ) (n : ℕ) (rest : List (Option ℕ)) (k m : ℕ) (c : Option ℕ) → length xs ≤ n → m ≡ n + k → set (row_laid xs n rest) m c ≡ row_laid xs n (set rest k c)
set_past xs n rest k m c le e =
    let none : Option ℕ = None in let empty = replicate (n - length xs) none in let row = map Some xs ++ empty in
    let long : length row ≡ n = omega (arith, length-append (map Some xs) empty, length-map xs Some, length-replicate (n - length xs) none) in
    let back : m - n ≡ k = omega arith in
    ap (λ l. set l m c) (sym (append_assoc (map Some xs) empty rest)) ∙ set-append_right row rest n m c long (omega arith) ∙ ap (λ j. row ++ set rest j c) back ∙ append_assoc (map Some xs) empty (set rest k c)

-- the rows that lie there are read back
pub read_back : (before : List (Option ℕ)) (at : ℕ) (rows : List (List ℕ)) (ns : List ℕ) → length before ≡ at → Fits rows ns
    → rows_between (before ++ laid rows ns) (starts_from at ns) (ends_from at rows ns) ≡ rows
read_back before at [] [] e f = refl
read_back before at [] (n ∷ ns) e f = absurd f
read_back before at (xs ∷ rows) [] e f = absurd f
read_back before at (xs ∷ rows) (n ∷ ns) e f =
    let none : Option ℕ = None in
    let rest = laid rows ns in let empty = replicate (n - length xs) none in let row = map Some xs ++ empty in
    let count : at + length xs - at ≡ length xs = omega arith in
    let all : before ++ row_laid xs n rest ≡ (before ++ row) ++ rest = ap (λ l. before ++ l) (sym (append_assoc (map Some xs) empty rest)) ∙ sym (append_assoc before row rest) in
    let long : length (before ++ row) ≡ at + n = omega (arith, f.0, length-append before row, length-append (map Some xs) empty, length-map xs Some, length-replicate (n - length xs) none) in
    let first : values (take (at + length xs - at) (drop at (before ++ row_laid xs n rest))) ≡ xs =
    ap (λ k. values (take k (drop at (before ++ row_laid xs n rest)))) count ∙ ap (λ l. values (take (length xs) l)) (drop_at before (row_laid xs n rest) at e)
    ∙ ap values (take_at (map Some xs) (empty ++ rest) (length xs) (length-map xs Some)) ∙ values-written xs in
    let later : rows_between (before ++ row_laid xs n rest) (starts_from (at + n) ns) (ends_from (at + n) rows ns) ≡ rows =
    ap (λ l. rows_between l (starts_from (at + n) ns) (ends_from (at + n) rows ns)) all ∙ read_back (before ++ row) (at + n) rows ns long f.1 in
    λ i. first i ∷ later i

-- the values of a row lie side by side
pub run_at : (rows : List (List ℕ)) (ns : List ℕ) (r : ℕ) → Fits rows ns → r < length rows → take (length (row_at rows r)) (drop (sum (take r ns)) (laid rows ns)) ≡ map Some (row_at rows r)
run_at [] ns r f lt = absurd (omega arith)
run_at (xs ∷ rows) [] r f lt = absurd f
run_at (xs ∷ rows) (n ∷ ns) zero f lt = take_at (map Some xs) (replicate (n - length xs) None ++ laid rows ns) (length xs) (length-map xs Some)
run_at (xs ∷ rows) (n ∷ ns) (suc r) f lt = ap (λ l. take (length (row_at rows r)) l) (past_row xs n (laid rows ns) (sum (take r ns)) (sum (n ∷ take r ns)) f.0 (sum-cons n (take r ns))) ∙ run_at rows ns r f.1 (omega arith)

pub fits-at : (rows : List (List ℕ)) (ns : List ℕ) (r : ℕ) → Fits rows ns → length (row_at rows r) ≤ get_or ns r 0
fits-at [] [] r f = omega arith
fits-at [] (n ∷ ns) r f = absurd f
fits-at (xs ∷ rows) [] r f = absurd f
fits-at (xs ∷ rows) (n ∷ ns) zero f = f.0
fits-at (xs ∷ rows) (n ∷ ns) (suc r) f = fits-at rows ns r f.1

-- the next slot of a row that has room

pub end_within : (rows : List (List ℕ)) (ns : List ℕ) (r : ℕ) → length (row_at rows r) < get_or ns r 0 → end_of rows ns r < sum ns
end_within rows [] r lt = absurd (omega arith)
end_within [] (n ∷ ns) zero lt = omega (arith, sum-cons n ns)
end_within [] (n ∷ ns) (suc r) lt = omega (arith, sum-cons n ns, sum-cons n (take r ns), end_within [] ns r lt)
end_within (xs ∷ rows) (n ∷ ns) zero lt = omega (arith, sum-cons n ns)
end_within (xs ∷ rows) (n ∷ ns) (suc r) lt = omega (arith, sum-cons n ns, sum-cons n (take r ns), end_within rows ns r lt)

row_cons : (xs : List ℕ) (n : ℕ) (rest : List (Option ℕ)) → length xs < n → row_laid xs n rest ≡ map Some xs ++ None ∷ (replicate (n - suc (length xs)) None ++ rest)
row_cons xs n rest lt = let more : n - length xs ≡ suc (n - suc (length xs)) = omega arith in ap (λ k. map Some xs ++ (replicate k None ++ rest)) more

pub end_free : (rows : List (List ℕ)) (ns : List ℕ) (r : ℕ) → Fits rows ns → r < length rows → length (row_at rows r) < get_or ns r 0 → get_or (laid rows ns) (end_of rows ns r) None ≡ None
end_free [] ns r f at lt = absurd (omega arith)
end_free (xs ∷ rows) [] r f at lt = absurd f
end_free (xs ∷ rows) (n ∷ ns) zero f at lt =
    let here : 0 + length xs ≡ length xs = omega arith in
    ap (λ k. get_or (row_laid xs n (laid rows ns)) k None) here ∙ ap (λ l. get_or l (length xs) None) (row_cons xs n (laid rows ns) lt) ∙ get_or_at (map Some xs) None (replicate (n - suc (length xs)) None ++ laid rows ns) None (length xs) (length-map xs Some)
end_free (xs ∷ rows) (n ∷ ns) (suc r) f at lt =
    get_past xs n (laid rows ns) (end_of rows ns r) (end_of (xs ∷ rows) (n ∷ ns) (suc r)) f.0 (omega (arith, sum-cons n (take r ns))) ∙ end_free rows ns r f.1 (omega arith) lt

map-snoc : (xs : List ℕ) (v : ℕ) → map Some (xs ++ v ∷ []) ≡ map Some xs ++ Some v ∷ []
map-snoc [] v = refl
map-snoc (x ∷ xs) v = ap (λ l. Some x ∷ l) (map-snoc xs v)

row_put : (xs : List ℕ) (n v : ℕ) (rest : List (Option ℕ)) → length xs < n → set (row_laid xs n rest) (length xs) (Some v) ≡ row_laid (xs ++ v ∷ []) n rest
row_put xs n v rest lt =
    let none : Option ℕ = None in let empty = replicate (n - suc (length xs)) none in
    let more : suc (length xs) ≡ length (xs ++ v ∷ []) = omega (arith, length-append xs (v ∷ [])) in
    ap (λ l. set l (length xs) (Some v)) (row_cons xs n rest lt) ∙ set_at (map Some xs) None (empty ++ rest) (Some v) (length xs) (length-map xs Some)
    ∙ sym (append_assoc (map Some xs) (Some v ∷ []) (empty ++ rest)) ∙ ap (λ l. l ++ (empty ++ rest)) (sym (map-snoc xs v)) ∙ ap (λ k. map Some (xs ++ v ∷ []) ++ (replicate (n - k) None ++ rest)) more

pub laid-put : (rows : List (List ℕ)) (ns : List ℕ) (r v : ℕ) → Fits rows ns → r < length rows → length (row_at rows r) < get_or ns r 0
    → set (laid rows ns) (end_of rows ns r) (Some v) ≡ laid (with_value rows r v) ns
laid-put [] ns r v f at lt = absurd (omega arith)
laid-put (xs ∷ rows) [] r v f at lt = absurd f
laid-put (xs ∷ rows) (n ∷ ns) zero v f at lt =
    let here : 0 + length xs ≡ length xs = omega arith in ap (λ k. set (row_laid xs n (laid rows ns)) k (Some v)) here ∙ row_put xs n v (laid rows ns) lt
laid-put (xs ∷ rows) (n ∷ ns) (suc r) v f at lt =
    set_past xs n (laid rows ns) (end_of rows ns r) (end_of (xs ∷ rows) (n ∷ ns) (suc r)) (Some v) f.0 (omega (arith, sum-cons n (take r ns)))
    ∙ ap (λ l. row_laid xs n l) (laid-put rows ns r v f.1 (omega arith) lt)

pub ends-put : (at : ℕ) (rows : List (List ℕ)) (ns : List ℕ) (r v : ℕ) → Fits rows ns → r < length rows
    → set (ends_from at rows ns) r (at + end_of rows ns r + 1) ≡ ends_from at (with_value rows r v) ns
ends-put at [] ns r v f lt = absurd (omega arith)
ends-put at (xs ∷ rows) [] r v f lt = absurd f
ends-put at (xs ∷ rows) (n ∷ ns) zero v f lt =
    let e : at + end_of (xs ∷ rows) (n ∷ ns) zero + 1 ≡ at + length (xs ++ v ∷ []) = omega (arith, length-append xs (v ∷ [])) in ap (λ k. k ∷ ends_from (at + n) rows ns) e
ends-put at (xs ∷ rows) (n ∷ ns) (suc r) v f lt =
    let e : at + end_of (xs ∷ rows) (n ∷ ns) (suc r) + 1 ≡ at + n + end_of rows ns r + 1 = omega (arith, sum-cons n (take r ns)) in
    ap (λ k. (at + length xs) ∷ set (ends_from (at + n) rows ns) r k) e ∙ ap (λ l. (at + length xs) ∷ l) (ends-put (at + n) rows ns r v f.1 (omega arith))

pub fits-put : (rows : List (List ℕ)) (ns : List ℕ) (r v : ℕ) → Fits rows ns → length (row_at rows r) < get_or ns r 0 → Fits (with_value rows r v) ns
fits-put [] [] r v f lt = tt
fits-put [] (n ∷ ns) r v f lt = absurd f
fits-put (xs ∷ rows) [] r v f lt = absurd f
fits-put (xs ∷ rows) (n ∷ ns) zero v f lt = (omega (arith, length-append xs (v ∷ [])), f.1)
fits-put (xs ∷ rows) (n ∷ ns) (suc r) v f lt = (f.0, fits-put rows ns r v f.1 lt)

-- a filling with nothing left

pub written-le : (rows : List (List ℕ)) (ns : List ℕ) → Fits rows ns → sum (map length rows) ≤ sum ns
written-le [] [] f = omega arith
written-le [] (n ∷ ns) f = absurd f
written-le (xs ∷ rows) [] f = absurd f
written-le (xs ∷ rows) (n ∷ ns) f = omega (arith, f.0, written-le rows ns f.1, sum-cons n ns, sum-cons (length xs) (map length rows))

pub all_full : (rows : List (List ℕ)) (ns : List ℕ) → Fits rows ns → sum ns ≤ sum (map length rows) → map length rows ≡ ns
all_full [] [] f le = refl
all_full [] (n ∷ ns) f le = absurd f
all_full (xs ∷ rows) [] f le = absurd f
all_full (xs ∷ rows) (n ∷ ns) f le =
    let parts = written-le rows ns f.1 in
    let first : length xs ≡ n = omega (arith, f.0, parts, sum-cons n ns, sum-cons (length xs) (map length rows)) in
    let rest = all_full rows ns f.1 (omega (arith, f.0, parts, sum-cons n ns, sum-cons (length xs) (map length rows))) in
    λ i. first i ∷ rest i

pub written-ge : (rows : List (List ℕ)) (ns : List ℕ) → ((r : ℕ) → r < length ns → length (row_at rows r) ≡ get_or ns r 0) → sum ns ≤ sum (map length rows)
written-ge rows [] h = omega arith
written-ge [] (n ∷ ns) h = omega (arith, h 0 (omega arith), written-ge [] ns (λ r lt. h (suc r) (omega arith)), sum-cons n ns)
written-ge (xs ∷ rows) (n ∷ ns) h =
    omega (arith, h 0 (omega arith), written-ge rows ns (λ r lt. h (suc r) (omega arith)), sum-cons n ns, sum-cons (length xs) (map length rows))

starts_open : (at : ℕ) (ns : List ℕ) → starts_from at ns ≡ at ∷ drop 1 (starts_from at ns)
starts_open at [] = refl
starts_open at (n ∷ ns) = refl

-- where all is written, each row ends where the next one starts
pub ends-full : (at : ℕ) (rows : List (List ℕ)) → ends_from at rows (map length rows) ≡ drop 1 (starts_from at (map length rows))
ends-full at [] = refl
ends-full at (xs ∷ rows) = ap (λ l. (at + length xs) ∷ l) (ends-full (at + length xs) rows) ∙ sym (starts_open (at + length xs) (map length rows))

-- a filling with nothing written

pub fits-unfilled : (ns : List ℕ) → Fits (empty_rows ns) ns
fits-unfilled [] = tt
fits-unfilled (n ∷ ns) = (omega arith, fits-unfilled ns)

pub laid-unfilled : (ns : List ℕ) → replicate (sum ns) None ≡ laid (empty_rows ns) ns
laid-unfilled [] = refl
laid-unfilled (n ∷ ns) =
    let none : Option ℕ = None in let whole : n - 0 ≡ n = omega arith in
    ap (λ k. replicate k none) (sum-cons n ns) ∙ sym (replicate-append-replicate n (sum ns) none) ∙ (λ i. replicate (sym whole i) none ++ laid-unfilled ns i)

pub ends-unfilled : (at : ℕ) (ns : List ℕ) → take (length ns) (starts_from at ns) ≡ ends_from at (empty_rows ns) ns
ends-unfilled at [] = refl
ends-unfilled at (n ∷ ns) = let same : at ≡ at + 0 = omega arith in λ i. same i ∷ ends-unfilled (at + n) ns i

-- one more length
pub starts-more : (at : ℕ) (ns : List ℕ) (n k : ℕ) → k ≡ at + sum ns + n → starts_from at (ns ++ n ∷ []) ≡ starts_from at ns ++ k ∷ []
starts-more at [] n k e = let same : at + n ≡ k = omega arith in ap (λ m. at ∷ m ∷ []) same
starts-more at (m ∷ ns) n k e = ap (λ l. at ∷ l) (starts-more (at + m) ns n k (omega (arith, sum-cons m ns)))

module _ (h : Inside) (rows : List (List ℕ)) (s : IsStoredAs h rows) where
  pub shown : rows_of h ≡ rows
  shown =
      (λ i. rows_between (s.slots i) (s.starts i) (drop 1 (s.starts i)))
      ∙ ap (λ l. rows_between (laid rows (map length rows)) (starts_from 0 (map length rows)) l) (sym (ends-full 0 rows))
      ∙ read_back [] 0 rows (map length rows) refl s.within.fits

  pub kept : IsRows h
  kept = subst (IsStoredAs h) (sym shown) s

-- a filling with no slot left
module _ (g : FillInside) (ok : IsFilling g) (f : Filling) (is : filling_of g ≡ f) (none : slots_left f ≡ 0) where
  pub full : map length f.rows ≡ f.lengths
  full =
      let fits = subst (λ (w : Filling). Fits w.rows w.lengths) is ok.within.fits in
      all_full f.rows f.lengths fits (omega (arith, none))

  pub finish_stores : (h : Inside) → h.block ≡ g.block → h.starts.items ≡ g.starts.items → IsStoredAs h f.rows
  finish_stores h block starts =
      let S : Filling → Type 0 = λ w. IsWithin w.rows w.lengths × (h.block ≡ laid w.rows w.lengths) × (h.starts.items ≡ starts_from 0 w.lengths) in
      let s : S f = subst S is (ok.within, block ∙ ok.slots, starts ∙ ok.starts) in
      let N : List ℕ → Type 0 = λ ns. S (record { rows = f.rows; lengths = ns }) in
      let n : N (map length f.rows) = subst N (sym full) s in
      record { within = n.0; slots = n.1; starts = n.2 }

-- the r-th of some rows
module _ (h : Inside) (ok : IsRows h) (rows : List (List ℕ)) (is : rows_of h ≡ rows) where
  had : IsStoredAs h rows
  had = subst (IsStoredAs h) is ok

  abbrev ns : List ℕ
  ns = map length rows

  pub count : length h.starts.items ≡ suc (length rows)
  count = omega (arith, ap length had.starts, length-starts 0 ns, length-map rows length)

  pub few : length rows < 2 ^ 32
  few = omega (arith, had.within.small.0, length-map rows length)

  module _ (r : ℕ) (lt : r < length rows) where
    abbrev row : List ℕ
    row = row_at rows r

    row_long : get_or ns r 0 ≡ length row
    row_long = get_or-map length rows r []

    in_ns : r < length ns
    in_ns = omega (arith, lt, length-map rows length)

    -- its first slot, and the first slot after it, as the fields have them
    module _ (from to : ℕ) (read_from : from ≡ get_or h.starts.items r from) (read_to : to ≡ get_or h.starts.items (r + 1) to) where
      starts_here : from ≡ sum (take r ns)
      starts_here =
          omega (arith, read_from ∙ get_or_default h.starts.items r from 0 (omega (arith, lt, count)), ap (λ l. get_or l r 0) had.starts, start_at 0 ns r (omega (arith, in_ns)))

      ends_here : to ≡ sum (take r ns) + length row
      ends_here =
          omega (
            arith,
            read_to ∙ get_or_default h.starts.items (r + 1) to 0 (omega (arith, lt, count)),
            ap (λ l. get_or l (r + 1) 0) had.starts,
            start_at 0 ns (r + 1) (omega (arith, in_ns)),
            sum_by_more (λ k. k) ns r 0 in_ns,
            row_long,
          )

      pub ordered : from ≤ to
      ordered = omega (arith, starts_here, ends_here)

      row_there : take (to - from) (drop from h.block) ≡ map Some row
      row_there =
          let long : to - from ≡ length row = omega (arith, starts_here, ends_here) in
          (λ i. take (long i) (drop (starts_here i) (had.slots i))) ∙ run_at rows ns r had.within.fits lt

      pub is_filled : IsFilled h.block from (to - from)
      is_filled =
          (omega (arith, starts_here, ends_here, row_long, sum_by_more_le (λ k. k) ns r 0 in_ns, ap length had.slots, length-laid rows ns had.within.fits), (row, row_there))

      pub is_row : (xs : List ℕ) → take (to - from) (drop from h.block) ≡ map Some xs → xs ≡ row
      is_row xs e = sym (values-written xs) ∙ ap values (sym e ∙ row_there) ∙ values-written row
