-- A fallen cell is taken: each safe pair that may lead to it closes.
use Rattle.std.proofs.Common.{inl, inr, ◌≡◌, ◌≢◌, ℕ, suc, ◌+◌, ◌-◌, ◌/◌, ◌%◌, ◌<◌, ◌≤◌, Bool, true, false, cond, ◌==◌, List, [], ◌∷◌, length, get_or, set, All, AllPairs, Contains, arith, refl, sym, ◌∙◌, ap, subst, length-set, get_or-set_same, get_or-set_other}
use Rattle.std.specs.List.{range_with_len}
use Rattle.std.proofs.lemmas.Bool.{cases_eq}
use Rattle.std.proofs.lemmas.Bool.Decides.{Decides-eqb}
use Rattle.std.proofs.lemmas.List.{get_or_append_left, get_or_default, length_push}
use Rattle.std.proofs.lemmas.List.Elements.{All-cons, Contains-get_or}
use Rattle.std.proofs.lemmas.List.FromFn.{length-range_with_len, get_or-range_with_len}
use Rattle.std.proofs.lemmas.List.Kept.{AllPairs-cons}
use Rattle.std.proofs.lemmas.Nat.{same_from_place}
use Rattle.game_core.specs.Game.{Game, AreSources, pair_of, pairs_of, successors_at}
use Rattle.game_core.specs.inside.Falling.{FallingProgress, with_fall, without_pair, after_check, after_loss, is_safe, safe_pairs, AreSafe, IsFalling}
use Rattle.base.proofs.Counts.{count_same, count_less, range_apart}
use Rattle.game_core.proofs.Edges.{HasParts, parts_of}
use Rattle.game_core.proofs.Falls.{fall_step}
use Rattle.base.proofs.Times.{length_of_distinct_below}

-- one safe pair closes, since it may lead to a fallen cell
module _ (g : Game) (head : ℕ) (p : FallingProgress) (h : IsFalling g g.cells head p) (pair : ℕ) (lt : pair < pairs_of g) (safe : is_safe p.safe pair ≡ true) where
  abbrev cell : ℕ
  cell = pair / g.inputs

  abbrev input : ℕ
  input = pair % g.inputs

  parts : HasParts g pair
  parts = parts_of g pair lt

  abbrev less : List Bool
  less = set p.safe pair false

  safe_here : is_safe less pair ≡ false
  safe_here = let n = h.safe.one_test_each in get_or-set_same p.safe pair false false (omega arith)

  safe_there : (q : ℕ) → q ≢ pair → is_safe less q ≡ is_safe p.safe q
  safe_there q ne = get_or-set_other p.safe pair q false false ne

  -- what is safe now was safe before, and isn't the pair
  was_safe : (q : ℕ) → is_safe less q ≡ true → is_safe p.safe q ≡ true
  was_safe q s =
      elim (cases_eq q pair) [
        | inl e ↦ absurd (let f = ap (is_safe less) e ∙ safe_here in cc)
        | inr ne ↦ sym (safe_there q ne) ∙ s
      ]

  one_less : suc (safe_pairs g less cell) ≡ safe_pairs g p.safe cell
  one_less =
      let at = get_or-range_with_len 0 g.inputs input input parts.input in
      let len = length-range_with_len 0 g.inputs in
      let below = parts.input in
      count_less (λ u. is_safe p.safe (pair_of g cell u)) (λ u. is_safe less (pair_of g cell u)) input
      (ap (is_safe p.safe) parts.is ∙ safe) (ap (is_safe less) parts.is ∙ safe_here)
      (λ u ne. safe_there (pair_of g cell u) (λ e. other u ne e))
      (range_with_len 0 g.inputs) input (range_apart 0 g.inputs) (omega arith) (omega arith)
    where
      other : (u : ℕ) → u ≢ input → pair_of g cell u ≡ pair → ⊥
      other u ne e = let i = parts.is in ne (omega arith)

  same_count : (d : ℕ) → d ≢ cell → safe_pairs g less d ≡ safe_pairs g p.safe d
  same_count d ne = count_same (λ u. is_safe less (pair_of g d u)) (λ u. is_safe p.safe (pair_of g d u)) (range_with_len 0 g.inputs) (λ i e li.
      let len = length-range_with_len 0 g.inputs in
      let at = get_or-range_with_len 0 g.inputs i e (omega arith) in
      let u = get_or (range_with_len 0 g.inputs) i e in
      safe_there (pair_of g d u) (λ f. ne (same_from_place d u cell input g.inputs (omega arith) parts.input (f ∙ sym parts.is)).0))

  pub some_left : 1 ≤ get_or p.left cell 0
  some_left = let n = h.safe.counted cell parts.cell in let l = one_less in omega arith

  abbrev q : FallingProgress
  q = without_pair pair (pair / g.inputs) p

  left_here : suc (get_or q.left cell 0) ≡ get_or p.left cell 0
  left_here =
      let b = parts.cell in
      let w = get_or-set_same p.left cell (get_or p.left cell 0 - 1) 0 (omega arith) in
      let s = some_left in
      omega arith

  left_there : (d : ℕ) → d ≢ cell → get_or q.left d 0 ≡ get_or p.left d 0
  left_there d ne = get_or-set_other p.left cell d (get_or p.left cell 0 - 1) 0 ne

  -- a cell of the queue is another one
  elsewhere : (d : ℕ) → Contains p.queue d → (d < g.cells) × (get_or q.left d 0 ≡ 0) × (d ≢ cell)
  elsewhere d has =
      let before = h.fallen.empty d has in
      let ne : d ≢ cell = (λ e. let s = some_left in let z : get_or p.left cell 0 ≡ 0 = ap (λ d. get_or p.left d 0) (sym e) ∙ before.1 in omega arith) in
      (before.0, left_there d ne ∙ before.1, ne)

  -- so there is room for the cell
  pub capacity : length p.queue < length p.left
  capacity =
      let within : All (λ d. d < g.cells) (cell ∷ p.queue) = All-cons (λ d. d < g.cells) cell p.queue parts.cell (λ i d li. (elsewhere (get_or p.queue i d) (Contains-get_or p.queue i d li)).0) in
      let apart : AllPairs (λ a b. a ≢ b) (cell ∷ p.queue) = AllPairs-cons (λ a b. a ≢ b) cell p.queue (λ i d li e. (elsewhere (get_or p.queue i d) (Contains-get_or p.queue i d li)).2 (sym e)) h.fallen.once in
      omega (arith, length_of_distinct_below g.cells (cell ∷ p.queue) apart within)

  module _ (s : ℕ) (leads : Contains (successors_at g pair) s) (gone : Contains p.queue s) where
    safe_after : AreSafe g q
    safe_after = record {
      one_test_each = length-set p.safe pair false ∙ h.safe.one_test_each;
      one_number_each = length-set p.left cell (get_or p.left cell 0 - 1) ∙ h.safe.one_number_each;
      live = λ r lr s'. h.safe.live r lr (was_safe r s');
      closed = λ r lr live u.
          elim (cases_eq r pair) [
            | inl e ↦ (s, subst (λ r. Contains (successors_at g r) s) (sym e) leads, gone)
            | inr ne ↦ h.safe.closed r lr live (sym (safe_there r ne) ∙ u)
          ];
      counted = λ d ld.
          elim (cases_eq d cell) [
            | inl e ↦
                let a = left_here in
                let b = one_less in
                let here : get_or q.left cell 0 ≡ safe_pairs g less cell = omega arith in
                subst (λ d. get_or q.left d 0 ≡ safe_pairs g less d) (sym e) here
            | inr ne ↦ left_there d ne ∙ (h.safe.counted d ld ∙ sym (same_count d ne))
          ];
    }

    taken_after : (i r : ℕ) → i < head → r < pairs_of g → is_safe q.safe r ≡ true → Contains (successors_at g r) (get_or q.queue i 0) → ⊥
    taken_after i r li lr s' to = h.taken i r li lr (was_safe r s') to

    checked : (b : Bool) → (get_or q.left cell 0 == 0) ≡ b → IsFalling g g.cells head (cond b (with_fall cell q) q)
    checked true e =
        fall_step g g.cells cell q safe_after parts.cell ((Decides-eqb (get_or q.left cell 0) 0).0 e)
        (λ d ld ne z. h.fallen.queued d ld (sym (left_there d ne) ∙ z)) elsewhere parts.cell h.fallen.once h.fallen.falls
        head h.reached taken_after
    checked false e = record {
      safe = safe_after;
      fallen = record {
        queued = λ d ld z.
            elim (cases_eq d cell) [
              | inl f ↦ absurd (let t = (Decides-eqb (get_or q.left cell 0) 0).1 (ap (λ d. get_or q.left d 0) (sym f) ∙ z) in cc)
              | inr ne ↦ h.fallen.queued d ld (sym (left_there d ne) ∙ z)
            ];
        empty = λ d has. let o = elsewhere d has in (o.0, o.1);
        once = h.fallen.once;
        falls = h.fallen.falls;
      };
      reached = h.reached;
      taken = taken_after;
    }

    pub lessened_then : IsFalling g g.cells head (after_check cell q)
    lessened_then = checked (get_or q.left cell 0 == 0) refl

-- the same, whether the pair was safe or not
module _ (g : Game) (head : ℕ) (p : FallingProgress) (h : IsFalling g g.cells head p) (pair : ℕ) (lt : pair < pairs_of g) (s : ℕ) (leads : Contains (successors_at g pair) s) (gone : Contains p.queue s) where
  loss_by : (b : Bool) → is_safe p.safe pair ≡ b → IsFalling g g.cells head (cond b (after_check (pair / g.inputs) (without_pair pair (pair / g.inputs) p)) p)
  loss_by true e = lessened_then g head p h pair lt e s leads gone
  loss_by false e = h

  pub after_one : IsFalling g g.cells head (after_loss g pair p)
  after_one = loss_by (is_safe p.safe pair) refl

-- what a loss leaves as it was
checked_safe : (b : Bool) (c : ℕ) (p : FallingProgress) → (cond b (with_fall c p) p).safe ≡ p.safe
checked_safe true c p = refl
checked_safe false c p = refl

pub closed_by_loss : (g : Game) (pair : ℕ) (p : FallingProgress) → pair < length p.safe → is_safe (after_loss g pair p).safe pair ≡ false
closed_by_loss g pair p lt = by_test (is_safe p.safe pair) refl
  where
    by_test : (b : Bool) → is_safe p.safe pair ≡ b → is_safe (cond b (after_check (pair / g.inputs) (without_pair pair (pair / g.inputs) p)) p).safe pair ≡ false
    by_test true e =
        ap (λ (xs : List Bool). is_safe xs pair) (checked_safe (get_or (without_pair pair (pair / g.inputs) p).left (pair / g.inputs) 0 == 0) (pair / g.inputs) (without_pair pair (pair / g.inputs) p))
        ∙ get_or-set_same p.safe pair false false lt
    by_test false e = e

pub closed_stays : (g : Game) (pair q : ℕ) (p : FallingProgress) → is_safe p.safe q ≡ false → is_safe (after_loss g pair p).safe q ≡ false
closed_stays g pair q p f = by_test (is_safe p.safe pair) refl
  where
    by_test : (b : Bool) → is_safe p.safe pair ≡ b → is_safe (cond b (after_check (pair / g.inputs) (without_pair pair (pair / g.inputs) p)) p).safe q ≡ false
    by_test true e =
        ap (λ (xs : List Bool). is_safe xs q) (checked_safe (get_or (without_pair pair (pair / g.inputs) p).left (pair / g.inputs) 0 == 0) (pair / g.inputs) (without_pair pair (pair / g.inputs) p))
        ∙ elim (cases_eq q pair) [
          | inl same ↦ absurd (let t = ap (is_safe p.safe) same ∙ e in cc)
          | inr ne ↦ get_or-set_other p.safe pair q false false ne ∙ f
        ]
    by_test false e = f

checked_queue : (b : Bool) (c : ℕ) (p : FallingProgress) (i : ℕ) → i < length p.queue → (get_or (cond b (with_fall c p) p).queue i 0 ≡ get_or p.queue i 0) × (i < length (cond b (with_fall c p) p).queue)
checked_queue true c p i lt = (get_or_append_left p.queue (c ∷ []) 0 i lt, let n = length_push p.queue c in omega arith)
checked_queue false c p i lt = (refl, lt)

pub queue_stays : (g : Game) (pair : ℕ) (p : FallingProgress) (i : ℕ) → i < length p.queue → (get_or (after_loss g pair p).queue i 0 ≡ get_or p.queue i 0) × (i < length (after_loss g pair p).queue)
queue_stays g pair p i lt = by_test (is_safe p.safe pair)
  where
    by_test : (b : Bool) → (get_or (cond b (after_check (pair / g.inputs) (without_pair pair (pair / g.inputs) p)) p).queue i 0 ≡ get_or p.queue i 0) × (i < length (cond b (after_check (pair / g.inputs) (without_pair pair (pair / g.inputs) p)) p).queue)
    by_test true = checked_queue (get_or (without_pair pair (pair / g.inputs) p).left (pair / g.inputs) 0 == 0) (pair / g.inputs) (without_pair pair (pair / g.inputs) p) i lt
    by_test false = (refl, lt)

-- What stands as the cell c is taken, with j of its sources done.
pub record IsTaking (g : Game) (head c : ℕ) (sources : List ℕ) (j : ℕ) (p : FallingProgress) : Type 0 where
  pub falling : IsFalling g g.cells head p
  pub at : head < length p.queue
  pub is : get_or p.queue head 0 ≡ c
  pub done : (i : ℕ) → i < j → is_safe p.safe (get_or sources i 0) ≡ false

module _ (g : Game) (head c : ℕ) (sources : List ℕ) (are : AreSources g c sources) (p : FallingProgress) where
  module _ (j : ℕ) (lj : j < length sources) (h : IsTaking g head c sources j p) where
    abbrev pair : ℕ
    pair = get_or sources j 0

    pub pair_leads : (pair < pairs_of g) × Contains (successors_at g pair) c
    pair_leads = (are.exactly pair).0 (Contains-get_or sources j 0 lj)

    in_queue : Contains p.queue c
    in_queue = subst (Contains p.queue) h.is (Contains-get_or p.queue head 0 h.at)

    pub one_more : IsTaking g head c sources (j + 1) (after_loss g pair p)
    one_more =
        let kept = queue_stays g pair p head h.at in
        record {
          falling = after_one g head p h.falling pair pair_leads.0 c pair_leads.1 in_queue;
          at = kept.1;
          is = kept.0 ∙ h.is;
          done = λ i li.
              elim (cases_eq i j) [
                | inl e ↦
                    let lp = pair_leads.0 in
                    subst (λ i. is_safe (after_loss g pair p).safe (get_or sources i 0) ≡ false) (sym e) (closed_by_loss g pair p (omega arith))
                | inr ne ↦ closed_stays g pair (get_or sources i 0) p (h.done i (omega arith))
              ];
        }

  pub taking_end : (j : ℕ) → j ≡ length sources → IsTaking g head c sources j p → IsFalling g g.cells (head + 1) p
  taking_end j e h = record {
    safe = h.falling.safe;
    fallen = h.falling.fallen;
    reached = let at = h.at in omega arith;
    taken = λ i pair li lp s leads.
        elim (cases_eq i head) [
          | inr ne ↦ h.falling.taken i pair (omega arith) lp s leads
          | inl f ↦
              let to : Contains (successors_at g pair) c = subst (Contains (successors_at g pair)) (ap (λ i. get_or p.queue i 0) f ∙ h.is) leads in
              let position = (are.exactly pair).1 (lp, to) in
              let off = h.done position.0 (let l = position.1 in omega arith) in
              let same : get_or sources position.0 0 ≡ pair = get_or_default sources position.0 0 pair position.1 ∙ position.2 in
              absurd (let t = ap (is_safe p.safe) same in cc)
        ];
  }
