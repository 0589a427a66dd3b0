-- What the members and the caller did together is a sweep.
use Rattle.std.proofs.Common.{◌≡◌, ℕ, suc, ◌+◌, ◌<◌, Option, Some, None, List, [], ◌∷◌, ◌++◌, length, get_or, set, map, All, IsPermutation, refl, sym, ap, ◌∙◌, subst, append_assoc, arith}
use Rattle.std.specs.List.{concat, range_with_len}
use Rattle.std.proofs.lemmas.List.{append-nil, length-map, map-set}
use Rattle.std.proofs.lemmas.List.Sums.{sum_by-cons}
use Rattle.std.proofs.lemmas.List.Elements.{All-nil, All-cons, All-head, All-tail, All-append, All-map}
use Rattle.std.proofs.lemmas.List.Sorted.{IsPermutation-refl}
use Rattle.atomic_table.specs.Seated.{TableId}
use Rattle.frontier_pool.specs.declared.member.Member.{Member}
use Rattle.frontier_pool.specs.declared.member.Local.{Local}
use Rattle.frontier_pool.specs.declared.rule.ClaimList.{ClaimList}
use Rattle.frontier_pool.specs.Sweeps.{followed, Sweeps}
use Rattle.frontier_pool.specs.inside.ClaimProtocol.{Seated, times_in, no_items, with_first_items}
use Rattle.frontier_pool.specs.inside.Gains.{SeatOf, Gained}
use Rattle.frontier_pool.specs.inside.Members.{IsCaller, HasAll, HasSeat, claim_lists_in, claim_lists_of, hands, Worked, HaveWorked}
use Rattle.base.proofs.Lists.{All-append_back}
use Rattle.base.proofs.Times.{times-append, each_once}
use Rattle.base.specs.Counts.{times}

abbrev claim_list_of : List ℕ → ClaimList
claim_list_of xs = record { items = xs }

seat_claim_list : (table : TableId) (xs : List ℕ) (local : Option Local) → HasSeat table xs local → claim_lists_in local ≡ claim_list_of xs ∷ []
seat_claim_list table xs None h = absurd h
seat_claim_list table xs (Some local) h = ap (λ (me : Seated). me.0.claim_lists) h.me

-- the parts that the members claimed and did
pub record Batches {H : Type 0} (done : H → List ℕ) (items : ℕ) (was now : List (Member H)) : Type 0 where
  pub claim_lists : List (List ℕ)
  pub each : length claim_lists ≡ length was
  pub grown : map (λ (m : Member H). done m.hand) now ≡ followed (map (λ (m : Member H). done m.hand) was) claim_lists
  pub claims : claim_lists_of now ≡ map claim_list_of claim_lists
  pub within : All (λ n. n < items) (concat claim_lists)

pub batches : {H : Type 0} (done : H → List ℕ) (table : TableId) (items : ℕ) (was now : List (Member H)) → length now ≡ length was → HaveWorked done table items was now → Batches done items was now
batches done table items [] [] same h = record { claim_lists = []; each = refl; grown = refl; claims = refl; within = All-nil (λ n. n < items) }
batches done table items [] (n ∷ ns) same h = absurd (omega arith)
batches done table items (m ∷ ms) [] same h = absurd (omega arith)
batches {H} done table items (m ∷ ms) (n ∷ ns) same h =
    let w : Worked done table items m n = h 0 m (omega arith) in
    let rest = batches done table items ms ns (omega arith) (λ k d lt. h (suc k) d (omega arith)) in
    let head : claim_lists_in n.local ≡ claim_list_of w.claim_list ∷ [] = seat_claim_list table w.claim_list n.local w.seat in
    record {
      claim_lists = w.claim_list ∷ rest.claim_lists;
      each = ap suc rest.each;
      grown = ap (λ (d : List ℕ). d ∷ map (λ (p : Member H). done p.hand) ns) w.did ∙ ap (λ (l : List (List ℕ)). (done m.hand ++ w.claim_list) ∷ l) rest.grown;
      claims = ap (λ (ps : List ClaimList). ps ++ claim_lists_of ns) head ∙ ap (λ (ps : List ClaimList). claim_list_of w.claim_list ∷ ps) rest.claims;
      within = All-append (λ k. k < items) w.claim_list (concat rest.claim_lists) w.within rest.within;
    }

-- the first list has some items besides
abbrev first_longer : List (List ℕ) → List ℕ → List (List ℕ)
first_longer [] more = []
first_longer (p ∷ claim_lists) more = (p ++ more) ∷ claim_lists

first_followed : (before claim_lists after : List (List ℕ)) (x more : List ℕ) → length claim_lists ≡ length before → 0 < length before → after ≡ followed before claim_lists → x ≡ get_or after 0 x ++ more
    → set after 0 x ≡ followed before (first_longer claim_lists more)
first_followed [] claim_lists after x more each some_list grown is = absurd (omega arith)
first_followed (b ∷ before) [] after x more each some_list grown is = absurd (omega arith)
first_followed (b ∷ before) (p ∷ claim_lists) after x more each some_list grown is =
    ap (λ l. set l 0 x) grown ∙ ap (λ y. y ∷ followed before claim_lists) (is ∙ ap (λ l. get_or l 0 x ++ more) grown ∙ append_assoc b p more)

length-first_longer : (claim_lists : List (List ℕ)) (more : List ℕ) → length (first_longer claim_lists more) ≡ length claim_lists
length-first_longer [] more = refl
length-first_longer (p ∷ claim_lists) more = refl

times-first_longer : (n : ℕ) (claim_lists : List (List ℕ)) (more : List ℕ) → 0 < length claim_lists → times n (concat (first_longer claim_lists more)) ≡ times n more + times n (concat claim_lists)
times-first_longer n [] more some_claim_list = absurd (omega arith)
times-first_longer n (p ∷ claim_lists) more some_claim_list = omega (arith, times-append n (p ++ more) (concat claim_lists), times-append n p more, times-append n p (concat claim_lists))

within-first_longer : (limit : ℕ) (claim_lists : List (List ℕ)) (more : List ℕ) → All (λ n. n < limit) (concat claim_lists) → All (λ n. n < limit) more → All (λ n. n < limit) (concat (first_longer claim_lists more))
within-first_longer limit [] more h k = h
within-first_longer limit (p ∷ claim_lists) more h k =
    let P : ℕ → Type 0 = λ n. n < limit in
    All-append P (p ++ more) (concat claim_lists) (All-append P p more (All-front P p (concat claim_lists) h) k) (All-append_back P p (concat claim_lists) h)
  where
    All-front : (P : ℕ → Type 0) (xs ys : List ℕ) → All P (xs ++ ys) → All P xs
    All-front P [] ys h = All-nil P
    All-front P (x ∷ xs) ys h = All-cons P x xs (All-head P x (xs ++ ys) h) (All-front P xs ys (All-tail P x (xs ++ ys) h))

times_in-claim_lists : (n : ℕ) (claim_lists : List (List ℕ)) → times_in n (map claim_list_of claim_lists) ≡ times n (concat claim_lists)
times_in-claim_lists n [] = refl
times_in-claim_lists n (p ∷ claim_lists) = omega (arith, sum_by-cons (λ (q : ClaimList). times n q.items) (claim_list_of p) (map claim_list_of claim_lists), times-append n p (concat claim_lists), times_in-claim_lists n claim_lists)

module _ {H : Type 0} (done : H → List ℕ) where
  -- what the hands did, by the hands
  did_by_hands : (members : List (Member H)) → map (λ (m : Member H). done m.hand) members ≡ map done (hands members)
  did_by_hands [] = refl
  did_by_hands (m ∷ members) = ap (λ (l : List (List ℕ)). done m.hand ∷ l) (did_by_hands members)

  same_did : (xs ys : List (Member H)) → hands xs ≡ hands ys → map (λ (m : Member H). done m.hand) xs ≡ map (λ (m : Member H). done m.hand) ys
  same_did xs ys same = did_by_hands xs ∙ ap (map done) same ∙ sym (did_by_hands ys)

  pub sweeps_as : (before again after : List (Member H)) (items : ℕ) → hands again ≡ hands before → Sweeps (map (λ (m : Member H). done m.hand) again) (map (λ (m : Member H). done m.hand) after) items
      → Sweeps (map (λ (m : Member H). done m.hand) before) (map (λ (m : Member H). done m.hand) after) items
  sweeps_as before again after items same h = subst (λ l. Sweeps l (map (λ (m : Member H). done m.hand) after) items) (same_did again before same) h

  get_or-did : (members : List (Member H)) (d : Member H) (x : List ℕ) → 0 < length members → get_or (map (λ (m : Member H). done m.hand) members) 0 x ≡ done (get_or members 0 d).hand
  get_or-did [] d x some_member = absurd (omega arith)
  get_or-did (m ∷ members) d x some_member = refl

  -- one hand does it all
  followed_none : (before : List (List ℕ)) → followed before (map (λ (l : List ℕ). []) before) ≡ before
  followed_none [] = refl
  followed_none (b ∷ before) = ap (λ (x : List ℕ). x ∷ followed before (map (λ (l : List ℕ). []) before)) (append-nil b) ∙ ap (λ (l : List (List ℕ)). b ∷ l) (followed_none before)

  concat_none : (before : List (List ℕ)) → concat (map (λ (l : List ℕ). []) before) ≡ []
  concat_none [] = refl
  concat_none (b ∷ before) = concat_none before

  pub one_sweeps : (members : List (Member H)) (first d : Member H) (items : ℕ) → 0 < length members → done first.hand ≡ done (get_or members 0 d).hand ++ range_with_len 0 items
      → Sweeps (map (λ (m : Member H). done m.hand) members) (map (λ (m : Member H). done m.hand) (set members 0 first)) items
  one_sweeps [] first d items some_member did = absurd (omega arith)
  one_sweeps (m ∷ members) first d items some_member did =
      let f : Member H → List ℕ = λ m. done m.hand in
      let others = map (λ (l : List ℕ). []) (map f members) in
      let range = range_with_len 0 items in
      record {
        claim_lists = range ∷ others;
        each = ap suc (length-map (map f members) (λ (l : List ℕ). []));
        grown = ap (λ (x : List ℕ). x ∷ map f members) did ∙ ap (λ (l : List (List ℕ)). (done m.hand ++ range) ∷ l) (sym (followed_none (map f members)));
        once = subst (IsPermutation range) (sym (ap (λ (l : List ℕ). range ++ l) (concat_none (map f members)) ∙ append-nil range)) (IsPermutation-refl range);
      }

  -- no item, nothing done
  pub none_sweeps : (members : List (Member H)) (items : ℕ) → items ≡ 0 → Sweeps (map (λ (m : Member H). done m.hand) members) (map (λ (m : Member H). done m.hand) members) items
  none_sweeps members items none =
      let before = map (λ (m : Member H). done m.hand) members in
      record {
        claim_lists = map (λ (l : List ℕ). []) before;
        each = length-map before (λ (l : List ℕ). []);
        grown = sym (followed_none before);
        once = subst (IsPermutation (range_with_len 0 items)) (ap (range_with_len 0) none ∙ sym (concat_none before)) (IsPermutation-refl (range_with_len 0 items));
      }

  -- the members' work, and then the caller's
  pub all_sweep : (table : TableId) (items made : ℕ) (before seated worked left : List (Member H)) (first d : Member H) (was now : SeatOf) → 0 < length before → hands seated ≡ hands before → length worked ≡ length seated
      → HaveWorked done table items seated worked → hands left ≡ hands worked → IsCaller table made (no_items ∷ claim_lists_of worked) was → Gained items was now (done (get_or left 0 d).hand) (done first.hand)
      → ((n : ℕ) → n < items → times_in n now.me.0.claim_lists ≡ 1) → Sweeps (map (λ (m : Member H). done m.hand) before) (map (λ (m : Member H). done m.hand) (set left 0 first)) items
  all_sweep table items made before seated worked left first d was now some_member same_seated long work same_left caller gained once =
      let f : Member H → List ℕ = λ m. done m.hand in
      let s = batches done table items seated worked long work in
      let q = gained.claim_list in
      let lengths : length before ≡ length seated = sym (length-map before (λ (m : Member H). m.hand)) ∙ ap length (sym same_seated) ∙ length-map seated (λ (m : Member H). m.hand) in
      let lengths_left : length left ≡ length worked = sym (length-map left (λ (m : Member H). m.hand)) ∙ ap length same_left ∙ length-map worked (λ (m : Member H). m.hand) in
      let counted : length s.claim_lists ≡ length (map f before) = s.each ∙ sym lengths ∙ sym (length-map before f) in
      let some_claim_list : 0 < length s.claim_lists = let each = s.each in omega arith in
      let grown : map f left ≡ followed (map f before) s.claim_lists = same_did left worked same_left ∙ s.grown ∙ ap (λ l. followed l s.claim_lists) (same_did seated before same_seated) in
      let own : done first.hand ≡ get_or (map f left) 0 (done first.hand) ++ q = gained.done ∙ ap (λ l. l ++ q) (sym (get_or-did left d (done first.hand) (omega arith))) in
      let claims : now.me.0.claim_lists ≡ claim_list_of q ∷ map claim_list_of s.claim_lists =
      ap (λ (me : Seated). me.0.claim_lists) gained.claims ∙ ap (λ (me : Seated). with_first_items me.0.claim_lists q) caller.me ∙ ap (λ (ps : List ClaimList). claim_list_of q ∷ ps) s.claims in
      record {
        claim_lists = first_longer s.claim_lists q;
        each = length-first_longer s.claim_lists q ∙ counted;
        grown = map-set f left 0 first ∙ first_followed (map f before) s.claim_lists (map f left) (done first.hand) q counted (omega (arith, length-map before f)) grown own;
        once = each_once items (concat (first_longer s.claim_lists q)) (within-first_longer items s.claim_lists q s.within gained.within)
            (λ n below.
            let mine : times_in n now.me.0.claim_lists ≡ times_in n (claim_list_of q ∷ map claim_list_of s.claim_lists) = ap (times_in n) claims in
            omega (arith, once n below, sum_by-cons (λ (p : ClaimList). times n p.items) (claim_list_of q) (map claim_list_of s.claim_lists), times_in-claim_lists n s.claim_lists, times-first_longer n s.claim_lists q some_claim_list));
      }

  -- the caller has all parts
  pub caller_has_all : (table : TableId) (items made : ℕ) (seated worked : List (Member H)) (was : SeatOf) → length worked ≡ length seated → HaveWorked done table items seated worked → IsCaller table made (no_items ∷ claim_lists_of worked) was
      → made ≡ 1 + length seated → HasAll table was
  caller_has_all table items made seated worked was long work caller is =
      let s = batches done table items seated worked long work in
      let claim_lists : length was.me.0.claim_lists ≡ 1 + length seated = ap (λ (me : Seated). length me.0.claim_lists) caller.me ∙ ap (λ (ps : List ClaimList). suc (length ps)) s.claims ∙ ap suc (length-map s.claim_lists claim_list_of ∙ s.each) ∙ omega arith in
      record {
        worker = caller.worker;
        first = caller.first;
        some = omega arith;
        alone = ap (λ (me : Seated). me.0.made) caller.me ∙ is ∙ sym claim_lists;
      }

-- what holds of the hands, where the members keep them
pub All-hands : {H : Type 0} (P : H → Type 0) (xs ys : List (Member H)) → hands ys ≡ hands xs → All (λ m. P m.hand) xs → All (λ m. P m.hand) ys
All-hands {H} P xs ys same h = back ys (subst (All P) (sym same) (All-map P (λ (m : Member H). m.hand) xs h))
  where
    back : (ms : List (Member H)) → All P (hands ms) → All (λ m. P m.hand) ms
    back [] h = All-nil (λ (m : Member H). P m.hand)
    back (m ∷ ms) h = All-cons (λ (n : Member H). P n.hand) m ms (All-head P m.hand (hands ms) h) (back ms (All-tail P m.hand (hands ms) h))
