-- Cells fall as their last safe pair closes.
use Rattle.std.proofs.Common.{inl, inr, ◌≡◌, ◌≢◌, ℕ, zero, suc, ◌+◌, ◌-◌, ◌/◌, ◌%◌, ◌<◌, ◌≤◌, max, Bool, true, false, not, ◌&&◌, ◌||◌, ◌==◌, nat_lt, List, [], ◌∷◌, ◌++◌, length, get_or, AllPairs, Contains, arith, refl, sym, ◌∙◌, ap, subst, eq-eqb}
use Rattle.std.specs.List.{list_any, range_with_len}
use Rattle.std.proofs.Math.Bool.{or-true}
use Rattle.std.proofs.lemmas.Bool.{cases_lt, cases_eq, or_cases}
use Rattle.std.proofs.lemmas.Bool.Decides.{Decides-ltb}
use Rattle.std.proofs.lemmas.List.{get_or_append_left, length_push}
use Rattle.std.proofs.lemmas.List.Elements.{Contains-get_or, Contains-append_left, Contains-push, Contains-push_cases}
use Rattle.std.proofs.lemmas.List.Folds.{list_any-from_Any, Any-from_list_any}
use Rattle.std.proofs.lemmas.List.FromFn.{length-range_with_len, get_or-range_with_len, length-map-range_with_len, get_or-map-range_with_len}
use Rattle.std.proofs.lemmas.List.Quantifiers.{all_pairs_push}
use Rattle.std.proofs.lemmas.List.Sums.{list_all-from_AllPass}
use Rattle.std.proofs.lemmas.Nat.{div-add-mod', mod_below, same_from_place}
use Rattle.game_core.specs.Game.{Game, mark_of, pair_of, pairs_of, successors_at, successors_of}
use Rattle.game_core.specs.Fallen.{is_obstacle, is_useless, is_helpless, has_fallen, Falls}
use Rattle.game_core.specs.inside.Falling.{FallingProgress, falling_at_first, with_fall, is_live, is_safe, safe_pairs, safe_at_first, AreSafe, AreFallenBelow, IsFalling}
use Rattle.base.proofs.Counts.{none_from_count, below_end}
use Rattle.game_core.proofs.Edges.{pair_below}
use Rattle.base.proofs.Times.{length_of_distinct_below}

-- the cell and the input of a pair
pub cell_of_pair : (g : Game) (c u : ℕ) → u < g.inputs → pair_of g c u / g.inputs ≡ c
cell_of_pair g c u lt =
    let pair = pair_of g c u in
    (same_from_place (pair / g.inputs) (pair % g.inputs) c u g.inputs (mod_below pair g.inputs (omega arith)) lt (div-add-mod' pair g.inputs)).0

-- a cell that has fallen stays so
stays : (g : Game) (d c : ℕ) → has_fallen g d c ≡ true → has_fallen g (suc d) c ≡ true
stays g d c e = ap (λ b. b || is_helpless g (has_fallen g d) c) e

later : (g : Game) (d e c : ℕ) → has_fallen g d c ≡ true → has_fallen g (e + d) c ≡ true
later g d zero c f = subst (λ n. has_fallen g n c ≡ true) {x = d} {y = zero + d} (omega arith) f
later g d (suc e) c f = subst (λ n. has_fallen g n c ≡ true) {x = suc (e + d)} {y = suc e + d} (omega arith) (stays g (e + d) c (later g d e c f))

by_round : (g : Game) (d e c : ℕ) → d ≤ e → has_fallen g d c ≡ true → has_fallen g e c ≡ true
by_round g d e c le f = subst (λ n. has_fallen g n c ≡ true) {x = (e - d) + d} {y = e} (omega arith) (later g d (e - d) c f)

useless_later : (g : Game) (d e c u : ℕ) → d ≤ e → is_useless g (has_fallen g d) c u ≡ true → is_useless g (has_fallen g e) c u ≡ true
useless_later g d e c u le f =
    elim (or_cases (length (successors_of g c u) == 0) (list_any (has_fallen g d) (successors_of g c u)) f) [
      | inl none ↦ ap (λ b. b || list_any (has_fallen g e) (successors_of g c u)) none
      | inr some' ↦
          let at = Any-from_list_any (has_fallen g d) (successors_of g c u) some' in
          let fell = list_any-from_Any (has_fallen g e) (successors_of g c u) (at.0, at.1, at.2, at.3, by_round g d e at.1 le at.4) in
          ap (λ b. (length (successors_of g c u) == 0) || b) fell ∙ or-true (length (successors_of g c u) == 0)
    ]

-- an input that is useless by some round
abbrev IsUseless : Game → ℕ → ℕ → Type 0
IsUseless g c u = (d : ℕ) × (is_useless g (has_fallen g d) c u ≡ true)

all_useless : (g : Game) (c n : ℕ) → ((u : ℕ) → u < n → IsUseless g c u) → (d : ℕ) × ((u : ℕ) → u < n → is_useless g (has_fallen g d) c u ≡ true)
all_useless g c zero h = (0, λ u lt. absurd (omega arith))
all_useless g c (suc n) h =
    let rest = all_useless g c n (λ u lt. h u (omega arith)) in
    let here = h n (omega arith) in
    let d = max rest.0 here.0 in (
      d,
      λ u lt.
          elim (cases_lt u n) [
            | inl less ↦ useless_later g rest.0 d c u (omega arith) (rest.1 u less)
            | inr ge ↦
                let e : n ≡ u = omega arith in
                subst (λ u. is_useless g (has_fallen g d) c u ≡ true) e (useless_later g here.0 d c n (omega arith) here.1)
          ],
    )

-- a cell all of whose inputs are useless falls
pub falls_helpless : (g : Game) (c : ℕ) → ((u : ℕ) → u < g.inputs → IsUseless g c u) → Falls g c
falls_helpless g c h =
    let all = all_useless g c g.inputs h in
    let d = all.0 in
    let helpless : is_helpless g (has_fallen g d) c ≡ true =
    list_all-from_AllPass (is_useless g (has_fallen g d) c) (range_with_len 0 g.inputs) (λ i e lt.
    let len = length-range_with_len 0 g.inputs in
    let at = get_or-range_with_len 0 g.inputs i e (omega arith) in
    all.1 (get_or (range_with_len 0 g.inputs) i e) (omega arith)) in
    (suc d, ap (λ b. has_fallen g d c || b) helpless ∙ or-true (has_fallen g d c))

-- an obstacle falls at once
falls_blocked : (g : Game) (c : ℕ) → is_obstacle (mark_of g c) ≡ true → Falls g c
falls_blocked g c e = (0, ap (λ b. b || is_helpless g (λ s. false) c) e)

-- a cell without a safe pair falls
module _ (g : Game) (p : FallingProgress) (h : AreSafe g p) (queue : (s : ℕ) → Contains p.queue s → Falls g s) (c : ℕ) (lt : c < g.cells) (none : get_or p.left c 0 ≡ 0) where
  unsafe : (u : ℕ) → u < g.inputs → is_safe p.safe (pair_of g c u) ≡ false
  unsafe u lu =
      below_end (λ u. is_safe p.safe (pair_of g c u) ≡ false) g.inputs u lu
      (none_from_count (λ u. is_safe p.safe (pair_of g c u)) (range_with_len 0 g.inputs) (omega arith))

  useless_dead : (u : ℕ) → nat_lt 0 (length (successors_of g c u)) ≡ false → IsUseless g c u
  useless_dead u f =
      let zero' : length (successors_of g c u) ≡ 0 = empty (successors_of g c u) f in
      (0, ap (λ b. b || list_any (has_fallen g 0) (successors_of g c u)) (eq-eqb (length (successors_of g c u)) 0 zero'))
    where
      empty : (xs : List ℕ) → nat_lt 0 (length xs) ≡ false → length xs ≡ 0
      empty [] e = refl
      empty (x ∷ xs) e = absurd (let t = (Decides-ltb 0 (length (x ∷ xs))).1 (omega arith) in cc)

  useless : (u : ℕ) → u < g.inputs → (is_obstacle (mark_of g c) ≡ false) → (b : Bool) → nat_lt 0 (length (successors_of g c u)) ≡ b → IsUseless g c u
  useless u lu clear false e = useless_dead u e
  useless u lu clear true e =
      let cell = cell_of_pair g c u lu in
      let here : is_obstacle (mark_of g (pair_of g c u / g.inputs)) ≡ false = ap (λ c. is_obstacle (mark_of g c)) cell ∙ clear in
      let live : is_live g (pair_of g c u) ≡ true = ap (λ b. b && not (is_obstacle (mark_of g (pair_of g c u / g.inputs)))) e ∙ ap not here in
      let gone = h.closed (pair_of g c u) (pair_below g c u lt lu) live (unsafe u lu) in
      let fell = queue gone.0 gone.2 in
      let any = list_any-from_Any (has_fallen g fell.0) (successors_of g c u) (gone.1.0, gone.0, gone.1.1, gone.1.2, fell.1) in
      (fell.0, ap (λ b. (length (successors_of g c u) == 0) || b) any ∙ or-true (length (successors_of g c u) == 0))

  by_mark : (b : Bool) → is_obstacle (mark_of g c) ≡ b → Falls g c
  by_mark true e = falls_blocked g c e
  by_mark false e = falls_helpless g c (λ u lu. useless u lu e (nat_lt 0 (length (successors_of g c u))) refl)

  pub falls_now : Falls g c
  falls_now = by_mark (is_obstacle (mark_of g c)) refl

-- at first each live pair is safe
pub begun_falling : (g : Game) → IsFalling g 0 0 (falling_at_first g)
begun_falling g = record {
  safe = record {
    one_test_each = length-map-range_with_len (is_live g) 0 (pairs_of g);
    one_number_each = length-map-range_with_len (safe_pairs g (safe_at_first g)) 0 g.cells;
    live = λ pair lt e. sym (first pair lt) ∙ e;
    closed = λ pair lt live gone. let same = first pair lt in absurd (cc);
    counted = λ c lt. get_or-map-range_with_len (safe_pairs g (safe_at_first g)) 0 g.cells c c 0 lt (omega arith);
  };
  fallen = record {
    queued = λ c lt. absurd (omega arith);
    empty = λ c has. let lt = has.1 in absurd (omega arith);
    once = λ i j d l m. absurd (omega arith);
    falls = λ c has. let lt = has.1 in absurd (omega arith);
  };
  reached = omega arith;
  taken = λ i pair lt. absurd (omega arith);
}
  where
    first : (pair : ℕ) → pair < pairs_of g → is_safe (safe_at_first g) pair ≡ is_live g pair
    first pair lt = get_or-map-range_with_len (is_live g) 0 (pairs_of g) pair pair false lt (omega arith)

-- a cell that falls is put at the end of the queue
module _ (g : Game) (bound c : ℕ) (q : FallingProgress) (safe : AreSafe g q) (cell : c < g.cells) (none : get_or q.left c 0 ≡ 0)
    (queued : (d : ℕ) → d < bound → d ≢ c → get_or q.left d 0 ≡ 0 → Contains q.queue d)
    (others : (d : ℕ) → Contains q.queue d → (d < bound) × (get_or q.left d 0 ≡ 0) × (d ≢ c)) (lt : c < bound)
    (once : AllPairs (λ a b. a ≢ b) q.queue) (falls : (d : ℕ) → Contains q.queue d → Falls g d) where
  safe_still : AreSafe g (with_fall c q)
  safe_still = record {
    one_test_each = safe.one_test_each;
    one_number_each = safe.one_number_each;
    live = safe.live;
    closed = λ pair lp live gone. let s = safe.closed pair lp live gone in (s.0, s.1, Contains-append_left q.queue (c ∷ []) s.0 s.2);
    counted = safe.counted;
  }

  fallen_too : AreFallenBelow g bound (with_fall c q)
  fallen_too = record {
    queued = λ d ld z.
        elim (cases_eq d c) [
          | inl e ↦ subst (Contains (q.queue ++ c ∷ [])) (sym e) (Contains-push q.queue c)
          | inr ne ↦ Contains-append_left q.queue (c ∷ []) d (queued d ld ne z)
        ];
    empty = λ d has.
        elim (Contains-push_cases q.queue c d has) [
          | inl before ↦ let o = others d before in (o.0, o.1)
          | inr e ↦ (omega arith, ap (λ d. get_or q.left d 0) (sym e) ∙ none)
        ];
    once = all_pairs_push (λ a b. a ≢ b) q.queue c once (λ k d lk. (others (get_or q.queue k d) (Contains-get_or q.queue k d lk)).2);
    falls = λ d has.
        elim (Contains-push_cases q.queue c d has) [
          | inl before ↦ falls d before
          | inr e ↦ subst (Falls g) e (falls_now g q safe falls c cell none)
        ];
  }

  pub fall_step : (head : ℕ) → head ≤ length q.queue → ((i pair : ℕ) → i < head → pair < pairs_of g → is_safe q.safe pair ≡ true → Contains (successors_at g pair) (get_or q.queue i 0) → ⊥) → IsFalling g bound head (with_fall c q)
  fall_step head reached taken = record {
    safe = safe_still;
    fallen = fallen_too;
    reached = let n = length_push q.queue c in omega arith;
    taken = λ i pair li lp s leads. taken i pair li lp s (subst (Contains (successors_at g pair)) (get_or_append_left q.queue (c ∷ []) 0 i (omega arith)) leads);
  }

-- the queue has room while a cell isn't in it
pub queue_below : (g : Game) (bound : ℕ) (p : FallingProgress) → AreFallenBelow g bound p → length p.queue ≤ bound
queue_below g bound p h = length_of_distinct_below bound p.queue h.once (λ i d lt. (h.empty (get_or p.queue i d) (Contains-get_or p.queue i d lt)).0)

-- the next cell is looked at
module _ (g : Game) (c : ℕ) (lt : c < g.cells) (p : FallingProgress) (h : IsFalling g c 0 p) where
  pub gather_fall : get_or p.left c 0 ≡ 0 → IsFalling g (c + 1) 0 (with_fall c p)
  gather_fall none = fall_step g (c + 1) c p h.safe lt none
      (λ d ld ne z. h.fallen.queued d (omega arith) z)
      (λ d has. let o = h.fallen.empty d has in let less = o.0 in (omega arith, o.1, omega arith))
      (omega arith) h.fallen.once h.fallen.falls 0 h.reached h.taken

  pub gather_stay : get_or p.left c 0 ≢ 0 → IsFalling g (c + 1) 0 p
  gather_stay some' = record {
    safe = h.safe;
    fallen = record {
      queued = λ d ld z.
          elim (cases_eq d c) [
            | inl e ↦ absurd (some' (ap (λ d. get_or p.left d 0) (sym e) ∙ z))
            | inr ne ↦ h.fallen.queued d (omega arith) z
          ];
      empty = λ d has. let o = h.fallen.empty d has in let less = o.0 in (omega arith, o.1);
      once = h.fallen.once;
      falls = h.fallen.falls;
    };
    reached = h.reached;
    taken = h.taken;
  }
