-- The goals get their rows first, and at the end all rows agree.
use Rattle.std.proofs.Common.{inl, inr, ◌≡◌, ◌≢◌, ℕ, ◌+◌, ◌<◌, ◌≤◌, true, false, ◌==◌, List, [], length, get_or, replicate, Option, Some, None, is_some, arith, refl, sym, ◌∙◌, ap, subst, take_all, length-set}
use Rattle.std.proofs.lemmas.Bool.{cases_lt, cases_eq}
use Rattle.std.proofs.lemmas.List.{get_or-map, get_or-replicate, get_or_past, length-replicate, length-map}
use Rattle.std.proofs.lemmas.List.Elements.{All-replicate}
use Rattle.std.proofs.lemmas.Map.Views.{list_any-from_Contains}
use Rattle.std.specs.Cmp.{nat_eq_equiv}
use Rattle.std.specs.List.{list_any}
use Rattle.base.proofs.Counts.{count_none, count_every}
use Rattle.game_core.proofs.Queues.{settle_queue}
use Rattle.game_core.proofs.Rows.{row_after_set, enabled_below}
use Rattle.game_core.specs.declared.game.Mark.TheVariants.{Goal}
use Rattle.game_core.specs.declared.game.Row.{Row}
use Rattle.game_core.specs.Game.{Game, IsGame, mark_of, pair_of, successors_at, successors_of}
use Rattle.game_core.specs.Solution.{row_of, HasRowBelow}
use Rattle.game_core.specs.inside.Search.{SearchProgress, search_at_first, with_row, IsSoundRow, IsConsistent, IsSearched, IsGathered, is_taken}
use Rattle.base.proofs.Lists.{some_element}

pub no_row : (n c : ℕ) → row_of (replicate n None) c ≡ None
no_row n c =
    elim (cases_lt c n) [
      | inl lt ↦ get_or-replicate n c None None lt
      | inr ge ↦ let l = length-replicate n (let x : Option Row = None in x) in get_or_past (replicate n None) c None (omega arith)
    ]

pub gathered_none : (g : Game) → IsGathered g 0 (search_at_first g)
gathered_none g = record {
  left = refl;
  one_each = length-replicate g.cells None;
  queue = record {
    has_row = λ s q. let lt = q.1 in absurd (omega arith);
    has_position = λ s row e. absurd (let n = no_row g.cells s in cc);
    once = λ i j d l m. absurd (omega arith);
    size = sym (count_none is_some (replicate g.cells None) (All-replicate (λ o. is_some o ≡ false) g.cells None refl));
    rising = λ i j d l m. absurd (omega arith);
    short = λ i d l. absurd (omega arith);
    rest = λ i d l m. absurd (omega arith);
    highest = λ s row e. absurd (let n = no_row g.cells s in cc);
  };
  goals = λ c l m. absurd (omega arith);
  only = λ c row e. absurd (let n = no_row g.cells c in cc);
}

abbrev pub goal_row : Row
goal_row = record { rank = 0; input = 0 }

module _ (g : Game) (c : ℕ) (lt : c < g.cells) (p : SearchProgress) (h : IsGathered g c p) where
  pub not_yet : row_of p.rows c ≡ None
  not_yet = by_row (row_of p.rows c) refl
    where
      by_row : (o : Option Row) → row_of p.rows c ≡ o → o ≡ None
      by_row None e = refl
      by_row (Some row) e = absurd (let l = (h.only c row e).0 in omega arith)

  pub gathered_goal : mark_of g c ≡ Goal → IsGathered g (c + 1) (with_row c goal_row p)
  gathered_goal m =
      let position : c < length p.rows = omega arith in
      record {
        left = h.left;
        one_each = length-set p.rows c (Some goal_row) ∙ h.one_each;
        queue = settle_queue 0 0 c goal_row p.rows p.queue h.queue position not_yet refl (omega arith);
        goals = λ s ls ms.
            elim (row_after_set p.rows c (Some goal_row) s position) [
              | inl here ↦ here.1
              | inr there ↦ let ne = there.0 in there.1 ∙ h.goals s (omega arith) ms
            ];
        only = λ s row e.
            elim (row_after_set p.rows c (Some goal_row) s position) [
              | inl here ↦ (let f = here.0 in omega arith, ap (mark_of g) here.0 ∙ m, (let a = here.1 in cc))
              | inr there ↦ let o = h.only s row (sym there.1 ∙ e) in (let l = o.0 in omega arith, o.1, o.2)
            ];
      }

  pub gathered_other : mark_of g c ≢ Goal → IsGathered g (c + 1) p
  gathered_other m = record {
    left = h.left;
    one_each = h.one_each;
    queue = h.queue;
    goals = λ s ls ms.
        elim (cases_eq s c) [
          | inl e ↦ absurd (m (sym (ap (mark_of g) e) ∙ ms))
          | inr ne ↦ h.goals s (omega arith) ms
        ];
    only = λ s row e. let o = h.only s row e in (let l = o.0 in omega arith, o.1, o.2);
  }

-- with every goal gathered the search begins
pub searched_none : (g : Game) → IsGame g → (p : SearchProgress) → IsGathered g g.cells p → IsSearched g 0 p
searched_none g a p h = record {
  top = 0;
  search = record {
    queue = h.queue;
    counted = record {
      one_each = ap length h.left ∙ (length-map g.successors length ∙ a.one_list_each);
      counts = λ pair lt.
          ap (λ (xs : List ℕ). get_or xs pair 0) h.left ∙ (get_or-map length g.successors pair [] 0 (omega arith) ∙ sym (count_every (successors_at g pair)));
    };
    told = record {
      one_each = h.one_each;
      goals = h.goals;
      lower = λ pair s lt ls e. absurd (let f : false ≡ true = e in cc);
      sound = λ c row e. let o = h.only c row e in subst (λ (row : Row). IsSoundRow g p.rows c row.rank row.input) (sym o.2) (o.1, refl);
      best = λ c v m lc plain enabled all each. absurd (let f : false ≡ true = all 0 0 (some_element (successors_of g c v) enabled.1) in cc);
    };
  };
}

-- with every cell taken the rows agree
pub consistent_all : (g : Game) → IsGame g → (p : SearchProgress) (head : ℕ) → length p.queue ≤ head → IsSearched g head p → IsConsistent g p.rows
consistent_all g a p head long h = record {
  one_each = h.search.told.one_each;
  goals = h.search.told.goals;
  sound = h.search.told.sound;
  best = λ c v m plain enabled each. h.search.told.best c v m (enabled_below g a c v enabled) plain enabled (λ i d li. cut_all (pair_of g c v) (each i d li)) each;
}
  where
    cut_all : (pair : ℕ) {m s : ℕ} → HasRowBelow p.rows m s → is_taken head p.queue pair s ≡ true
    cut_all pair {m} {s} r =
        ap (list_any (◌==◌ s)) (take_all head p.queue long) ∙ list_any-from_Contains nat_eq_equiv s p.queue (h.search.queue.has_position s r.row r.is)
