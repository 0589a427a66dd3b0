-- Counts, and lists of pairs, take in pairs.
use Rattle.std.proofs.Common.{◌≡◌, ℕ, ◌+◌, ◌<◌, List, [], ◌++◌, length, replicate, refl, sym, ap, ◌∙◌, arith, append_assoc, append-nil}
use Rattle.std.proofs.lemmas.List.{length-append, length-replicate, replicate-append-replicate}
use Rattle.game_core.specs.Counts.{times}
use Rattle.edge_rows.specs.Rows.{Filling, row_at}
use Rattle.base.proofs.Times.{times-append}
use Rattle.source_lists.specs.inside.Tallies.{AreCounted, CountsFit, ArePut, HasCapacityFor}
use Rattle.source_lists.specs.inside.Intakes.{IsIntake}

pub counted_none : (counts : List ℕ) → AreCounted counts counts []
counted_none counts = record { long = refl; each = λ c. omega arith; total = omega arith }

pub counted_more : (before now after cells more : List ℕ) → AreCounted before now cells → AreCounted now after more → AreCounted before after (cells ++ more)
counted_more before now after cells more h g = record {
  long = g.long ∙ h.long;
  each = λ c. omega (arith, g.each c, h.each c, times-append c cells more);
  total = omega (arith, g.total, h.total, length-append cells more);
}

pub counts_lawful : {A : Type 0} (counts : A → List ℕ) → IsIntake A (λ v. length (counts v)) (λ v cells. CountsFit (counts v) cells) (λ pair v w cells. AreCounted (counts v) (counts w) cells)
counts_lawful counts = record {
  slots_stay = λ pair before after cells h. h.long;
  none = λ pair v. counted_none (counts v);
  more = λ pair before now after cells more. counted_more (counts before) (counts now) (counts after) cells more;
  room_left = λ pair before now done cells later h capacity c. omega (arith, h.each c, capacity c, times-append c (done ++ cells) later, times-append c done cells);
}

pub put_more : (pair : ℕ) (before now after : Filling) (cells more : List ℕ) → ArePut pair before now cells → ArePut pair now after more → ArePut pair before after (cells ++ more)
put_more pair before now after cells more h g = record {
  long = g.long ∙ h.long;
  lengths = g.lengths ∙ h.lengths;
  each = λ c below.
      g.each c (rw h.long below)
      ∙ ap (λ (r : List ℕ). r ++ replicate (times c more) pair) (h.each c below)
      ∙ append_assoc (row_at before.rows c) (replicate (times c cells) pair) (replicate (times c more) pair)
      ∙ ap (λ (r : List ℕ). row_at before.rows c ++ r) (replicate-append-replicate (times c cells) (times c more) pair ∙ ap (λ (n : ℕ). replicate n pair) (sym (times-append c cells more)));
}

-- a row is as long as it was, and one longer for each time that its cell came
put_length : (pair : ℕ) (before now : Filling) (cells : List ℕ) (c : ℕ) → ArePut pair before now cells → c < length before.rows → length (row_at now.rows c) ≡ length (row_at before.rows c) + times c cells
put_length pair before now cells c h below =
    ap length (h.each c below) ∙ length-append (row_at before.rows c) (replicate (times c cells) pair) ∙ ap (λ (n : ℕ). length (row_at before.rows c) + n) (length-replicate (times c cells) pair)

pub lists_lawful : IsIntake Filling (λ f. length f.rows) HasCapacityFor ArePut
lists_lawful = record {
  slots_stay = λ pair before after cells h. h.long;
  none = λ pair f. record { long = refl; lengths = refl; each = λ c below. sym (append-nil (row_at f.rows c)) };
  more = put_more;
  room_left = λ pair before now done cells later h capacity c below.
      let within : c < length before.rows = omega (arith, below, h.long) in
      rw h.lengths (omega (arith, put_length pair before now done c h within, capacity c within, times-append c (done ++ cells) later, times-append c done cells));
}
