-- Sums of counts, and edges counted from both ends.
use Rattle.std.proofs.Common.{inl, inr, ◌≢◌, ℕ, List, [], AllPairs, arith, sym, ◌∙◌}
use Rattle.std.specs.List.Sorted.{IsStrictlyIncreasing}
use Rattle.std.proofs.lemmas.Bool.{cases_lt}
use Rattle.std.proofs.lemmas.List.Kept.{AllPairs-from_increasing}
use Rattle.game_core.specs.Counts.{times, CountsAgree, EdgesFromBothEnds}
use Rattle.game_core.specs.Game.{successors_at}
use Rattle.base.proofs.Counts.{sum_alike, sum_added, sum_le, sum_positions, all_pass, none_from_count, each_passes, one_fails, alike_from_counts}
use Rattle.base.proofs.Times.{same, each_once, from_both_sides, of_all_below, times_none, found, counted, in_range, out_of_range, times_filter, times_once}
use Rattle.game_core.proofs.Edges.{successors_apart}

pub counts_agree : CountsAgree
counts_agree = record {
  same = same;
  each_once = each_once;
  from_both_sides = from_both_sides;
  of_all_below = of_all_below;
  alike = sum_alike;
  added = sum_added;
  lesser = sum_le;
  positions = λ f xs. sum_positions f 0 xs;
  positions_of_lists = λ f xss. sum_positions f [] xss;
  all_pass = all_pass;
  none_passes = none_from_count;
  each_passes = each_passes;
  one_fails = one_fails;
  pass_alike = alike_from_counts;
  absent = times_none;
  found = found;
  counted = counted;
  in_range = in_range;
  out_of_range = out_of_range;
  filtered = times_filter;
}

pub edges_from_both_ends : EdgesFromBothEnds
edges_from_both_ends g c pair pairs a h lt =
    elim (cases_lt 0 (times c (successors_at g pair))) [
      | inl some' ↦
          let leads = found c (successors_at g pair) some' in
          times_once pair pairs (AllPairs-from_increasing' pairs h.rising) ((h.exactly pair).1 (lt, leads))
          ∙ sym (times_once c (successors_at g pair) (successors_apart g a pair) leads)
      | inr none' ↦
          elim (cases_lt 0 (times pair pairs)) [
            | inl some' ↦
                let leads = ((h.exactly pair).0 (found pair pairs some')).1 in
                let once = times_once c (successors_at g pair) (successors_apart g a pair) leads in
                absurd (omega arith)
            | inr none'' ↦ omega arith
          ]
    ]
  where
    AllPairs-from_increasing' : (xs : List ℕ) → IsStrictlyIncreasing xs → AllPairs (λ a b. a ≢ b) xs
    AllPairs-from_increasing' xs up = λ i j d l m e. let r = AllPairs-from_increasing xs up i j d l m in omega arith
