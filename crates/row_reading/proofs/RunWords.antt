-- The lines of rows: each is one line, and says one thing.
use Rattle.std.proofs.Common.{◌≡◌, ℕ, ◌^◌, ◌<◌, Bool, true, false, cond, eqb, List, Option, [], ◌∷◌, ◌++◌, drop, refl, sym, ap, subst, ◌∙◌, append_assoc, arith}
use Rattle.std.specs.Prelude.{codes}
use Rattle.std.specs.List.{list_all}
use Rattle.std.specs.Fmt.{decimal}
use Rattle.std.proofs.lemmas.Bool.{eqb-true}
use Rattle.std.proofs.lemmas.Fmt.{decimal_injective}
use Rattle.game_core.specs.declared.game.Row.{Row}
use Rattle.row_runs.specs.declared.row_format.RowFormat.{RowFormat}
use Rattle.row_runs.specs.declared.row_format.RowFormat.TheVariants.{InputAboveZero, InputAlone, Both}
use Rattle.row_runs.specs.declared.run.Run.{Run}
use Rattle.row_runs.specs.declared.run.TableVersion.{TableVersion}
use Rattle.row_runs.specs.declared.run.TableVersion.TheVariants.{First, Second}
use Rattle.row_runs.specs.Runs.{HasCells}
use Rattle.row_runs.specs.RunText.{rank_field, input_field, run_line, count_line}
use Rattle.row_runs.proofs.RunLaws.{forward}
use Rattle.row_reading.specs.declared.row_rules.RowRules.{RowRules}
use Rattle.row_reading.specs.RowsTexts.{Determines, IsRunWithin}
use Rattle.row_reading.specs.TurnSteps.{IsNextRow}
use Rattle.row_reading.specs.inside.RunReading.{IsSpelled, IsSpelledRow, row_format, last_words, AreSmall}
use Rattle.row_runs.proofs.Cuts.{one_cut}
use Rattle.row_runs.proofs.Lines.{IsLine, no_feed}
use Rattle.row_runs.proofs.RunWords.{is_inner, decimal_inner, decimal_no_feed, no_feed_in, both_no_feed}

-- ---- words

rank_is_word : (format : RowFormat) (row : Row) → IsSpelledRow format row → list_all is_inner (rank_field format row) ≡ true
rank_is_word InputAboveZero row s = decimal_inner row.rank (omega (arith, s.rank))
rank_is_word InputAlone row s = refl
rank_is_word Both row s = decimal_inner row.rank (omega (arith, s.rank))

input_is_word : (format : RowFormat) (row : Row) → IsSpelledRow format row → list_all is_inner (input_field format row) ≡ true
input_is_word InputAboveZero row s = chosen (eqb row.rank 0) (decimal_inner row.input (omega (arith, s.input)))
  where
    chosen : (b : Bool) → list_all is_inner (decimal row.input) ≡ true → list_all is_inner (cond b (codes "-") (decimal row.input)) ≡ true
    chosen true h = refl
    chosen false h = h
input_is_word InputAlone row s = decimal_inner row.input (omega (arith, s.input))
input_is_word Both row s = decimal_inner row.input (omega (arith, s.input))

-- ---- lines

spaced : (a b i after : List ℕ) → ((a ++ (32 ∷ (b ++ (32 ∷ i)))) ++ (10 ∷ [])) ++ after ≡ a ++ 32 ∷ (b ++ 32 ∷ (i ++ 10 ∷ after))
spaced a b i after = simp append_assoc

spaced_all : (a l b i after : List ℕ) → ((a ++ (32 ∷ (l ++ (32 ∷ (b ++ (32 ∷ i)))))) ++ (10 ∷ [])) ++ after ≡ a ++ 32 ∷ (l ++ 32 ∷ (b ++ 32 ∷ (i ++ 10 ∷ after)))
spaced_all a l b i after = simp append_assoc

-- a run's line, its words apart
pub run_words : (v : TableVersion) (format : RowFormat) (r : Run) (after : List ℕ) → run_line v format r ++ after ≡ decimal r.first ++ 32 ∷ last_words v r.last (row_format format r.row after)
run_words First format r after = spaced (decimal r.first) (rank_field format r.row) (input_field format r.row) after
run_words Second format r after = spaced_all (decimal r.first) (decimal r.last) (rank_field format r.row) (input_field format r.row) after

pub count_words : (n : ℕ) (after : List ℕ) → count_line n ++ after ≡ codes "rows " ++ (decimal n ++ 10 ∷ after)
count_words n after = ap (λ (x : List ℕ). codes "rows " ++ x) (append_assoc (decimal n) (10 ∷ []) after)

row_no_feed : (format : RowFormat) (row : Row) → IsSpelledRow format row → list_all no_feed (rank_field format row ++ 32 ∷ input_field format row) ≡ true
row_no_feed format row s =
    both_no_feed (rank_field format row) (input_field format row) (no_feed_in (rank_field format row) (rank_is_word format row s)) (no_feed_in (input_field format row) (input_is_word format row s))

number_no_feed : (n : ℕ) → n < 2 ^ 32 → list_all no_feed (decimal n) ≡ true
number_no_feed n lt = decimal_no_feed n (omega arith)

pub run_is_line : (v : TableVersion) (format : RowFormat) (r : Run) → IsSpelled v format r → IsLine (run_line v format r)
run_is_line First format r s = record {
  front = decimal r.first ++ 32 ∷ (rank_field format r.row ++ 32 ∷ input_field format r.row);
  no_other = both_no_feed (decimal r.first) (rank_field format r.row ++ 32 ∷ input_field format r.row) (number_no_feed r.first s.first) (row_no_feed format r.row s.row);
  are = refl;
}
run_is_line Second format r s = record {
  front = decimal r.first ++ 32 ∷ (decimal r.last ++ 32 ∷ (rank_field format r.row ++ 32 ∷ input_field format r.row));
  no_other = both_no_feed (decimal r.first) (decimal r.last ++ 32 ∷ (rank_field format r.row ++ 32 ∷ input_field format r.row)) (number_no_feed r.first s.first)
      (both_no_feed (decimal r.last) (rank_field format r.row ++ 32 ∷ input_field format r.row) (number_no_feed r.last s.last) (row_no_feed format r.row s.row));
  are = refl;
}

-- ---- what a line gives

pub count_same : (m n : ℕ) → m < 2 ^ 64 → n < 2 ^ 64 → count_line m ≡ count_line n → m ≡ n
count_same m n hm hn e =
    let cut = one_cut is_inner (decimal m) (decimal n) 10 10 [] [] (decimal_inner m hm) (decimal_inner n hn) refl refl (ap (drop 5) e) in
    decimal_injective m n hm hn cut.front

same_rank : (format : RowFormat) (a b : Row) → IsSpelledRow format a → IsSpelledRow format b → rank_field format a ≡ rank_field format b → a.rank ≡ b.rank
same_rank InputAboveZero a b s t e = decimal_injective a.rank b.rank (omega (arith, s.rank)) (omega (arith, t.rank)) e
same_rank InputAlone a b s t e = s.tells ∙ sym t.tells
same_rank Both a b s t e = decimal_injective a.rank b.rank (omega (arith, s.rank)) (omega (arith, t.rank)) e

told : (rank u v : ℕ) (b : Bool) → eqb rank 0 ≡ b → u < 2 ^ 32 → v < 2 ^ 32 → (rank ≡ 0 → u ≡ 0) → (rank ≡ 0 → v ≡ 0) → cond b (codes "-") (decimal u) ≡ cond b (codes "-") (decimal v) → u ≡ v
told rank u v true at hu hv zu zv e = let zero_is = eqb-true rank 0 at in zu zero_is ∙ sym (zv zero_is)
told rank u v false at hu hv zu zv e = decimal_injective u v (omega arith) (omega arith) e

same_input : (format : RowFormat) (rank u v : ℕ) → u < 2 ^ 32 → v < 2 ^ 32 → Determines format (record { rank = rank; input = u }) → Determines format (record { rank = rank; input = v }) → input_field format (record { rank = rank; input = u }) ≡ input_field format (record { rank = rank; input = v }) → u ≡ v
same_input InputAboveZero rank u v hu hv zu zv e = told rank u v (eqb rank 0) refl hu hv zu zv e
same_input InputAlone rank u v hu hv zu zv e = decimal_injective u v (omega arith) (omega arith) e
same_input Both rank u v hu hv zu zv e = decimal_injective u v (omega arith) (omega arith) e

same_row : (format : RowFormat) (a b : Row) → IsSpelledRow format a → IsSpelledRow format b → rank_field format a ≡ rank_field format b → input_field format a ≡ input_field format b → a ≡ b
same_row format a b s t ranks inputs =
    let rank : a.rank ≡ b.rank = same_rank format a b s t ranks in
    let moved : input_field format (record { rank = b.rank; input = a.input }) ≡ input_field format b = subst (λ (k : ℕ). input_field format (record { rank = k; input = a.input }) ≡ input_field format b) rank inputs in
    let tells : Determines format (record { rank = b.rank; input = a.input }) = subst (λ (k : ℕ). Determines format (record { rank = k; input = a.input })) rank s.tells in
    let input : a.input ≡ b.input = same_input format b.rank a.input b.input s.input t.input tells t.tells moved in
    ap (λ (k : ℕ). record { rank = k; input = a.input }) rank ∙ ap (λ (u : ℕ). record { rank = b.rank; input = u }) input

one_of_parts : (a b : Run) → a.first ≡ b.first → a.last ≡ b.last → a.row ≡ b.row → a ≡ b
one_of_parts a b first last row =
    ap (λ (n : ℕ). record { first = n; last = a.last; row = a.row }) first
    ∙ ap (λ (n : ℕ). record { first = b.first; last = n; row = a.row }) last
    ∙ ap (λ (r : Row). record { first = b.first; last = b.last; row = r }) row

-- What stands after the same first cell: the last one, and the words after it.
record AreOneLast (a b : Run) (s t : List ℕ) : Type 0 where
  last : a.last ≡ b.last
  rest : s ≡ t

same_last : (v : TableVersion) (format : RowFormat) (a b : Run) (s t : List ℕ) → IsSpelled v format a → IsSpelled v format b → a.first ≡ b.first → last_words v a.last s ≡ last_words v b.last t → AreOneLast a b s t
same_last First format a b s t h k first e = record { last = sym h.cells ∙ first ∙ k.cells; rest = e }
same_last Second format a b s t h k first e =
    let x = one_cut is_inner (decimal a.last) (decimal b.last) 32 32 s t (decimal_inner a.last (omega (arith, h.last))) (decimal_inner b.last (omega (arith, k.last))) refl refl e in
    record { last = decimal_injective a.last b.last (omega (arith, h.last)) (omega (arith, k.last)) x.front; rest = x.rest }

-- lines at the front of the same bytes
pub one_run : (v : TableVersion) (format : RowFormat) (a b : Run) (s t : List ℕ) → IsSpelled v format a → IsSpelled v format b → run_line v format a ++ s ≡ run_line v format b ++ t → a ≡ b
one_run v format a b s t h k e =
    let after : List ℕ = row_format format a.row s in
    let other : List ℕ = row_format format b.row t in
    let whole : decimal a.first ++ 32 ∷ last_words v a.last after ≡ decimal b.first ++ 32 ∷ last_words v b.last other = sym (run_words v format a s) ∙ e ∙ run_words v format b t in
    let x = one_cut is_inner (decimal a.first) (decimal b.first) 32 32 (last_words v a.last after) (last_words v b.last other) (decimal_inner a.first (omega (arith, h.first))) (decimal_inner b.first (omega (arith, k.first))) refl refl whole in
    let first : a.first ≡ b.first = decimal_injective a.first b.first (omega (arith, h.first)) (omega (arith, k.first)) x.front in
    let l = same_last v format a b after other h k first x.rest in
    let y = one_cut is_inner (rank_field format a.row) (rank_field format b.row) 32 32 (input_field format a.row ++ 10 ∷ s) (input_field format b.row ++ 10 ∷ t) (rank_is_word format a.row h.row) (rank_is_word format b.row k.row) refl refl l.rest in
    let z = one_cut is_inner (input_field format a.row) (input_field format b.row) 10 10 s t (input_is_word format a.row h.row) (input_is_word format b.row k.row) refl refl y.rest in
    one_of_parts a b first l.last (same_row format a.row b.row h.row k.row y.front z.front)

pub run_same : (v : TableVersion) (format : RowFormat) (a b : Run) → IsSpelled v format a → IsSpelled v format b → run_line v format a ≡ run_line v format b → a ≡ b
run_same v format a b h k e = one_run v format a b [] [] h k (ap (λ (x : List ℕ). x ++ []) e)

-- ---- lines that rules allow

pub spelled_run : (rules : RowRules) (r : Run) → AreSmall rules → HasCells rules.version r → IsRunWithin rules r → IsSpelled rules.version rules.format r
spelled_run rules r small some h =
    let ahead = forward rules.version r some in
    record {
      first = omega (arith, ahead, h.cells, small.cells);
      last = omega (arith, h.cells, small.cells);
      cells = some;
      row = record { rank = omega (arith, h.row.most, small.most_rank); input = omega (arith, h.row.input, small.vectors); tells = h.row.told };
    }

module _ (rules : RowRules) (small : AreSmall rules) where
  pub row_is_line : (last : Option Run) (r : Run) (line : List ℕ) → IsNextRow rules last r line → IsLine line
  row_is_line last r line h = subst IsLine (sym h.line_is) (run_is_line rules.version rules.format r (spelled_run rules r small h.cells h.within))

  pub row_same : (last : Option Run) (r s : Run) (line : List ℕ) → IsNextRow rules last r line → IsNextRow rules last s line → r ≡ s
  row_same last r s line h k =
      run_same rules.version rules.format r s (spelled_run rules r small h.cells h.within) (spelled_run rules s small k.cells k.within) (sym h.line_is ∙ k.line_is)
