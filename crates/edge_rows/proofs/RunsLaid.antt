-- Values that are put in one row after another.
use Rattle.std.proofs.Common.{◌≡◌, ℕ, zero, suc, ◌+◌, ◌<◌, ◌≤◌, List, [], ◌∷◌, ◌++◌, map, length, take, drop, get_or, set, refl, sym, ap, subst, ◌∙◌, arith, take_at}
use Rattle.std.proofs.lemmas.List.{drop_more, drop-set-lt, get_or-set_other, length-set, length-map, length-append, take-append-drop}
use Rattle.edge_rows.specs.Rows.{row_at, with_value, with_each_changed, with_value_each}
use Rattle.edge_rows.specs.inside.Layout.{laid, ends_from}
use Rattle.edge_rows.specs.inside.Slices.{AreFree, contents_with}
use Rattle.edge_rows.proofs.Laid.{Fits, end_of, length-ends, length-laid, end_at, end_within, end_free, laid-put, ends-put, fits-put}

-- one more item that is changed
pub run_none : {X : Type 0} (change : X → X) (xs : List X) (r : ℕ) → with_each_changed change xs r 0 ≡ xs
run_none change xs r = take-append-drop r xs

pub run_more : {X : Type 0} (change : X → X) (d : X) (xs : List X) (r n : ℕ) → r < length xs → with_each_changed change xs r (suc n) ≡ with_each_changed change (set xs r (change (get_or xs r d))) (r + 1) n
run_more change d [] r n lt = absurd (omega (arith, lt))
run_more change d (x ∷ xs) zero n lt = refl
run_more change d (x ∷ xs) (suc r) n lt =
    let next : r + 1 + 1 ≡ suc r + 1 = omega arith in
    let later : suc (r + 1) ≡ suc r + 1 = omega arith in
    ap (λ ys. x ∷ ys) (run_more change d xs r n (omega (arith, lt))) ∙ ap (λ k. with_each_changed change (x ∷ set xs r (change (get_or xs r d))) k n) later

pub run_long : (change : ℕ → ℕ) (xs : List ℕ) (r n : ℕ) → length (with_each_changed change xs r n) ≡ length xs
run_long change xs r n =
    let later : List ℕ = drop r xs in
    omega (
      arith,
      length-append (take r xs) (map change (take n later) ++ drop n later),
      length-append (map change (take n later)) (drop n later),
      length-map (take n later) change,
      ap length (take-append-drop n later),
      length-append (take n later) (drop n later),
      ap length (take-append-drop r xs),
      length-append (take r xs) later,
    )

-- what stands in a vector once a run of its items is changed
pub items_after : (change : ℕ → ℕ) (ends now new : List ℕ) (r n k len : ℕ) → now ≡ ends → k ≡ n → new ≡ map change (take k (drop r now)) → len ≡ length ends →
    take len ((take r now ++ (new ++ drop k (drop r now))) ++ drop (length (take r now ++ (new ++ drop k (drop r now)))) ends) ≡ with_each_changed change ends r n
items_after change ends now new r n k len same is items count =
    let whole : List ℕ = with_each_changed change ends r n in
    rw (items, same, is) (take_at whole (drop (length whole) ends) len (run_long change ends r n ∙ sym count))

-- rows from the r-th on that have room
abbrev pub EachHasFreeSlotIn : List (List ℕ) → List ℕ → ℕ → ℕ → Type 0
EachHasFreeSlotIn rows ns r n = (c : ℕ) → r ≤ c → c < r + n → length (row_at rows c) < get_or ns c 0

abbrev ends_of : List (List ℕ) → List ℕ → ℕ → ℕ → List ℕ
ends_of rows ns r n = take n (drop r (ends_from 0 rows ns))

-- what a run of values does to the parts of a filling
pub record IsRunPut (rows : List (List ℕ)) (ns : List ℕ) (r n v : ℕ) : Type 0 where
  pub free : AreFree (laid rows ns) (ends_of rows ns r n) v
  pub slots : contents_with (laid rows ns) (ends_of rows ns r n) v ≡ laid (with_value_each rows r n v) ns
  pub ends : with_each_changed (λ end. end + 1) (ends_from 0 rows ns) r n ≡ ends_from 0 (with_value_each rows r n v) ns
  pub fits : Fits (with_value_each rows r n v) ns

module _ (rows : List (List ℕ)) (ns : List ℕ) (r n v : ℕ) (fits : Fits rows ns) (at : r < length rows) (room : EachHasFreeSlotIn rows ns r (suc n)) where
  abbrev after : List (List ℕ)
  after = with_value rows r v

  here : length (row_at rows r) < get_or ns r 0
  here = room r (omega arith) (omega arith)

  room_later : EachHasFreeSlotIn after ns (r + 1) n
  room_later c from to =
      rw (get_or-set_other rows r c (row_at rows r ++ v ∷ []) [] (λ same. absurd (omega (arith, same, from)))) (room c (omega (arith, from)) (omega (arith, to)))

  long : r < length (ends_from 0 rows ns)
  long = omega (arith, at, length-ends 0 rows ns fits)

  end_is : get_or (ends_from 0 rows ns) r 0 ≡ end_of rows ns r
  end_is = omega (arith, end_at 0 rows ns r fits at)

  ends_after : set (ends_from 0 rows ns) r (end_of rows ns r + 1) ≡ ends_from 0 after ns
  ends_after = ap (λ k. set (ends_from 0 rows ns) r k) (let e : end_of rows ns r + 1 ≡ 0 + end_of rows ns r + 1 = omega arith in e) ∙ ends-put 0 rows ns r v fits at

  -- the first of the ends, and those after it
  ends_split : ends_of rows ns r (suc n) ≡ end_of rows ns r ∷ ends_of after ns (r + 1) n
  ends_split =
      ap (take (suc n)) (drop_more (ends_from 0 rows ns) r 0 long)
      ∙ ap (λ k. k ∷ take n (drop (r + 1) (ends_from 0 rows ns))) end_is
      ∙ ap (λ xs. end_of rows ns r ∷ take n xs) (sym (drop-set-lt (r + 1) (ends_from 0 rows ns) r (end_of rows ns r + 1) (omega arith)))
      ∙ ap (λ xs. end_of rows ns r ∷ take n (drop (r + 1) xs)) ends_after

  one_more : IsRunPut after ns (r + 1) n v → IsRunPut rows ns r (suc n) v
  one_more later =
      let placed = laid-put rows ns r v fits at here in
      let runs : with_value_each rows r (suc n) v ≡ with_value_each after (r + 1) n v = run_more (λ row. row ++ v ∷ []) [] rows r n at in
      let within : end_of rows ns r < length (laid rows ns) = omega (arith, end_within rows ns r here, length-laid rows ns fits) in
      record {
        free = subst (λ es. AreFree (laid rows ns) es v) (sym ends_split) (within, end_free rows ns r fits at here, subst (λ contents. AreFree contents (ends_of after ns (r + 1) n) v) (sym placed) later.free);
        slots = ap (λ es. contents_with (laid rows ns) es v) ends_split ∙ ap (λ contents. contents_with contents (ends_of after ns (r + 1) n) v) placed ∙ later.slots ∙ ap (λ rs. laid rs ns) (sym runs);
        ends = run_more (λ end. end + 1) 0 (ends_from 0 rows ns) r n long ∙ ap (λ k. with_each_changed (λ end. end + 1) (set (ends_from 0 rows ns) r (k + 1)) (r + 1) n) end_is ∙ ap (λ es. with_each_changed (λ end. end + 1) es (r + 1) n) ends_after ∙ later.ends ∙ ap (λ rs. ends_from 0 rs ns) (sym runs);
        fits = subst (λ rs. Fits rs ns) (sym runs) later.fits;
      }

pub run_put : (rows : List (List ℕ)) (ns : List ℕ) (r n v : ℕ) → Fits rows ns → r + n ≤ length rows → EachHasFreeSlotIn rows ns r n → IsRunPut rows ns r n v
run_put rows ns r zero v fits within room =
    let whole = run_none (λ row. row ++ v ∷ []) rows r in
    record {
      free = tt;
      slots = ap (λ rs. laid rs ns) (sym whole);
      ends = run_none (λ end. end + 1) (ends_from 0 rows ns) r ∙ ap (λ rs. ends_from 0 rs ns) (sym whole);
      fits = subst (λ rs. Fits rs ns) (sym whole) fits;
    }
run_put rows ns r (suc n) v fits within room =
    let at : r < length rows = omega (arith, within) in
    let long : r + 1 + n ≤ length (with_value rows r v) = omega (arith, within, length-set rows r (row_at rows r ++ v ∷ [])) in
    one_more rows ns r n v fits at room (run_put (with_value rows r v) ns (r + 1) n v (fits-put rows ns r v fits (here rows ns r n v fits at room)) long (room_later rows ns r n v fits at room))
