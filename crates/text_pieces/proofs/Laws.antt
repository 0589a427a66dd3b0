-- One reading, one first refusal, never both and never neither.
use Rattle.std.proofs.Common.{inl, inr, ◌≡◌, ◌⊎◌, ℕ, zero, suc, ◌+◌, ◌<◌, ◌≤◌, List, [], ◌∷◌, ◌++◌, length, refl, sym, ap, ◌∙◌, append_assoc, append-nil, length-append, subst, arith}
use Rattle.std.specs.List.{concat}
use Rattle.std.proofs.lemmas.List.{append_cancel_left}
use Rattle.text_pieces.specs.Steps.{joined, Leads, IsRead, IsStuck, IsReading, IsFirstRefused, IsGrammar}

-- ---- ways

pub joined_more : {A : Type 0} (pieces : List (List A)) (piece : List A) → joined (pieces ++ piece ∷ []) ≡ joined pieces ++ piece
joined_more [] piece = append-nil piece
joined_more (x ∷ pieces) piece = ap (λ (z : _). x ++ z) (joined_more pieces piece) ∙ sym (append_assoc x (joined pieces) piece)

pub joined_bytes : (xs : List (List ℕ)) → concat xs ≡ joined xs
joined_bytes [] = refl
joined_bytes (x ∷ xs) = ap (λ (z : List ℕ). x ++ z) (joined_bytes xs)

-- one way after another
pub both_ways : {S A : Type 0} (Step : S → List A → S → Type 0) (q m r : S) (pieces more : List (List A)) → Leads Step q pieces m → Leads Step m more r → Leads Step q (pieces ++ more) r
both_ways Step q m r [] more first second = subst (λ (x : _). Leads Step x more r) first second
both_ways Step q m r (x ∷ pieces) more first second = (first.0, first.1, both_ways Step first.0 m r pieces more first.2 second)

-- a way with a further piece
pub one_more : {S A : Type 0} (Step : S → List A → S → Type 0) (q m r : S) (pieces : List (List A)) (piece : List A) → Leads Step q pieces m → Step m piece r → Leads Step q (pieces ++ piece ∷ []) r
one_more Step q m r pieces piece leads step = both_ways Step q m r pieces (piece ∷ []) leads (r, step, refl)

pub read_on : {S A : Type 0} (Step : S → List A → S → Type 0) (from to r : S) (text rest piece after : List A) (pieces : List (List A)) → IsRead Step from text pieces to rest → rest ≡ piece ++ after → Step to piece r → IsRead Step from text (pieces ++ piece ∷ []) r after
read_on {A = A} Step from to r text rest piece after pieces read cut step = record {
  leads = one_more Step from to r pieces piece read.leads step;
  are = read.are
      ∙ ap (λ (x : List A). joined pieces ++ x) cut
      ∙ sym (append_assoc (joined pieces) piece after)
      ∙ ap (λ (x : List A). x ++ after) (sym (joined_more pieces piece));
}

-- what each step keeps holds of the state that a way leads to
pub kept : {S A : Type 0} (Step : S → List A → S → Type 0) (Is : S → Type 0) → ((q m : S) (x : List A) → Is q → Step q x m → Is m) → (q : S) (pieces : List (List A)) (r : S) → Is q → Leads Step q pieces r → Is r
kept Step Is keep q [] r is leads = subst Is (sym leads) is
kept Step Is keep q (x ∷ pieces) r is leads = kept Step Is keep leads.0 pieces r (keep q leads.0 x is leads.1) leads.2

-- where no piece is empty, there are no more of them than elements
pub few_pieces : {S A : Type 0} (Step : S → List A → S → Type 0) → ((q m : S) → Step q [] m → ⊥) → (q r : S) (pieces : List (List A)) → Leads Step q pieces r → length pieces ≤ length (joined pieces)
few_pieces Step some q r [] leads = omega arith
few_pieces Step some q r ([] ∷ pieces) leads = absurd (some q leads.0 leads.1)
few_pieces Step some q r ((a ∷ x) ∷ pieces) leads = omega (arith, few_pieces Step some leads.0 r pieces leads.2, length-append (a ∷ x) (joined pieces))

-- and the first piece that is refused is at most the one after them
pub few_refused : {S A : Type 0} (Step : S → List A → S → Type 0) (Closed : S → List A → Type 0) → ((q m : S) → Step q [] m → ⊥) → (q : S) (text : List A) (n : ℕ) → IsFirstRefused Step Closed q text n → n ≤ length text + 1
few_refused Step Closed some q text n r =
    omega (arith, few_pieces Step some q r.to r.pieces (r.read).leads, r.next, ap length (r.read).are, length-append (joined r.pieces) r.rest)

-- The second way goes on where the first ends.
pub record GoesOn {S A : Type 0} (Step : S → List A → S → Type 0) (first second : List (List A)) (m n : S) (rest others : List A) : Type 0 where
  pub more : List (List A)
  pub pieces : second ≡ first ++ more
  pub leads : Leads Step m more n
  pub are : rest ≡ joined more ++ others

further : {S A : Type 0} (Step : S → List A → S → Type 0) (x y : List A) (first second : List (List A)) (m n : S) (rest others : List A) → x ≡ y → GoesOn Step first second m n rest others → GoesOn Step (x ∷ first) (y ∷ second) m n rest others
further {A = A} Step x y first second m n rest others e g = record {
  more = g.more;
  pieces = ap (λ (z : List A). z ∷ second) (sym e) ∙ ap (λ (zs : List (List A)). x ∷ zs) g.pieces;
  leads = g.leads;
  are = g.are;
}

module _ {S A : Type 0} (Step : S → List A → S → Type 0) (Closed : S → List A → Type 0) (IsMet : S → Type 0) (grammar : IsGrammar Step Closed IsMet) where
  -- the state that a way leads to is met
  pub met : (q : S) (pieces : List (List A)) (r : S) → IsMet q → Leads Step q pieces r → IsMet r
  met q pieces r is leads = kept Step IsMet grammar.met q pieces r is leads

  -- of two ways through the same text one goes on where the other ends
  pub one_way : (q : S) (first second : List (List A)) (m n : S) (rest others : List A) → IsMet q → Leads Step q first m → Leads Step q second n → joined first ++ rest ≡ joined second ++ others
      → GoesOn Step first second m n rest others ⊎ GoesOn Step second first n m others rest
  one_way q [] second m n rest others is a b e = inl (record { more = second; pieces = refl; leads = subst (λ (x : S). Leads Step x second n) (sym a) b; are = e })
  one_way q (x ∷ first) [] m n rest others is a b e = inr (record { more = x ∷ first; pieces = refl; leads = subst (λ (z : S). Leads Step z (x ∷ first) m) (sym b) a; are = sym e })
  one_way q (x ∷ first) (y ∷ second) m n rest others is a b e =
      let both : x ++ (joined first ++ rest) ≡ y ++ (joined second ++ others) = sym (append_assoc x (joined first) rest) ∙ e ∙ append_assoc y (joined second) others in
      let same : x ≡ y = grammar.one_piece q a.0 b.0 x y (joined first ++ rest) (joined second ++ others) is a.1 b.1 both in
      let after : joined first ++ rest ≡ joined second ++ others = append_cancel_left x (joined first ++ rest) (joined second ++ others) (both ∙ ap (λ (z : List A). z ++ (joined second ++ others)) (sym same)) in
      let state : b.0 ≡ a.0 = grammar.one_state q b.0 a.0 x is (subst (λ (z : List A). Step q z b.0) (sym same) b.1) a.1 in
      elim (one_way a.0 first second m n rest others (grammar.met q a.0 x is a.1) a.2 (subst (λ (z : S). Leads Step z second n) state b.2) after) [
        | inl g ↦ inl (further Step x y first second m n rest others same g)
        | inr g ↦ inr (further Step y x second first n m others rest (sym same) g)
      ]

  -- Two ways are one.
  pub record AreEven (first second : List (List A)) (m n : S) (s t : List A) : Type 0 where
    pub pieces : first ≡ second
    pub state : m ≡ n
    pub rest : s ≡ t

  -- what goes on where nothing can go on has ended
  stays : (first second : List (List A)) (m n : S) (rest others : List A) → IsStuck Step m rest → GoesOn Step first second m n rest others → AreEven first second m n rest others
  stays first second m n rest others stuck g = by g.more g.pieces g.leads g.are
    where
      by : (more : List (List A)) → second ≡ first ++ more → Leads Step m more n → rest ≡ joined more ++ others → AreEven first second m n rest others
      by [] pieces leads are = record { pieces = sym (pieces ∙ append-nil first); state = sym leads; rest = are }
      by (x ∷ more) pieces leads are = absurd (stuck x (joined more ++ others) leads.0 (are ∙ append_assoc x (joined more) others) leads.1)

  turned : (first second : List (List A)) (m n : S) (rest others : List A) → AreEven first second m n rest others → AreEven second first n m others rest
  turned first second m n rest others e = record { pieces = sym e.pieces; state = sym e.state; rest = sym e.rest }

  -- two ways that can't go on are one
  pub one_end : (q : S) (text : List A) (first second : List (List A)) (m n : S) (rest others : List A) → IsMet q → IsRead Step q text first m rest → IsRead Step q text second n others → IsStuck Step m rest → IsStuck Step n others → AreEven first second m n rest others
  one_end q text first second m n rest others is a b ends stops = elim (one_way q first second m n rest others is a.leads b.leads (sym a.are ∙ b.are)) [
    | inl g ↦ stays first second m n rest others ends g
    | inr g ↦ turned second first n m others rest (stays second first n m others rest stops g)
  ]

  reading_ends : (q : S) (text : List A) (to : S) (rest : List A) → IsMet q → (r : IsReading Step Closed q text to rest) → IsStuck Step to rest
  reading_ends q text to rest is r = grammar.ends to rest (met q r.pieces to is (r.read).leads) r.closed

  -- ONE READING
  pub one_reading : (q : S) (text : List A) (m n : S) (rest others : List A) → IsMet q → IsReading Step Closed q text m rest → IsReading Step Closed q text n others → (m ≡ n) × (rest ≡ others)
  one_reading q text m n rest others is a b =
      let e = one_end q text a.pieces b.pieces m n rest others is a.read b.read (reading_ends q text m rest is a) (reading_ends q text n others is b) in
      (e.state, e.rest)

  -- ONE FIRST REFUSAL, at one position and in one state
  pub one_position : (q : S) (text : List A) (i j : ℕ) → IsMet q → (r : IsFirstRefused Step Closed q text i) → (s : IsFirstRefused Step Closed q text j) → AreEven r.pieces s.pieces r.to s.to r.rest s.rest
  one_position q text i j is r s = one_end q text r.pieces s.pieces r.to s.to r.rest s.rest is r.read s.read r.stuck s.stuck

  pub one_refusal : (q : S) (text : List A) (i j : ℕ) → IsMet q → IsFirstRefused Step Closed q text i → IsFirstRefused Step Closed q text j → i ≡ j
  one_refusal q text i j is r s =
      let e = one_position q text i j is r s in
      r.next ∙ ap (λ (x : List (List A)). suc (length x)) e.pieces ∙ sym s.next

  -- NEVER BOTH
  pub read_or_refused : (q : S) (text : List A) (to : S) (rest : List A) (i : ℕ) → IsMet q → IsReading Step Closed q text to rest → IsFirstRefused Step Closed q text i → ⊥
  read_or_refused q text to rest i is a r =
      let e = one_end q text a.pieces r.pieces to r.to rest r.rest is a.read r.read (reading_ends q text to rest is a) r.stuck in
      r.unclosed (subst (λ (x : S × List A). Closed x.0 x.1) (λ k. (e.state k, e.rest k)) a.closed)

  -- ---- NEVER NEITHER

  -- a piece leads on, or the text is closed, or neither
  pub data Look (q : S) (rest : List A) : Type 0 where
    leads_on : (piece after : List A) (r : S) → rest ≡ piece ++ after → Step q piece r → Look q rest
    is_closed : Closed q rest → Look q rest
    is_stuck : IsStuck Step q rest → (Closed q rest → ⊥) → Look q rest

  -- a text is read, or a piece is refused
  pub data Outcome (q : S) (text : List A) : Type 0 where
    is_read : (to : S) (rest : List A) → IsReading Step Closed q text to rest → Outcome q text
    is_refused : (n : ℕ) → IsFirstRefused Step Closed q text n → Outcome q text

  shorter : (q m : S) (piece after rest : List A) → IsMet q → rest ≡ piece ++ after → Step q piece m → length after < length rest
  shorter q m [] after rest is cut step = absurd (grammar.some q m after is step)
  shorter q m (b ∷ piece) after rest is cut step = omega (arith, ap length cut, length-append (b ∷ piece) after)

  -- One proof for both: where looking is a decision, Goal is the outcome; where it can't be denied alone, Goal is ⊥.
  module _ (Goal : Type 0) (look : (q : S) (rest : List A) → IsMet q → (Look q rest → Goal) → Goal) where
    -- at a look: reading ends, or goes on
    at_look : (from : S) (text : List A) (pieces : List (List A)) (to : S) (rest : List A) → IsRead Step from text pieces to rest → (Outcome from text → Goal) → ((piece after : List A) (r : S) → rest ≡ piece ++ after → Step to piece r → Goal) → Look to rest → Goal
    at_look from text pieces to rest read then on (is_closed closed) = then (is_read to rest (record { pieces = pieces; read = read; closed = closed }))
    at_look from text pieces to rest read then on (is_stuck stuck unclosed) = then (is_refused (suc (length pieces)) (record { pieces = pieces; next = refl; to = to; rest = rest; read = read; stuck = stuck; unclosed = unclosed }))
    at_look from text pieces to rest read then on (leads_on piece after r cut step) = on piece after r cut step

    read_from : (from : S) (text : List A) (fuel : ℕ) (pieces : List (List A)) (to : S) (rest : List A) → IsMet from → length rest ≤ fuel → IsRead Step from text pieces to rest → (Outcome from text → Goal) → Goal
    read_from from text zero pieces to rest is few read then =
        let here : IsMet to = met from pieces to is read.leads in
        look to rest here (at_look from text pieces to rest read then (λ piece after r cut step. absurd (omega (arith, few, shorter to r piece after rest here cut step))))
    read_from from text (suc n) pieces to rest is few read then =
        let here : IsMet to = met from pieces to is read.leads in
        look to rest here (at_look from text pieces to rest read then (λ piece after r cut step.
        read_from from text n (pieces ++ piece ∷ []) r after is (omega (arith, few, shorter to r piece after rest here cut step)) (read_on {A = A} Step from to r text rest piece after pieces read cut step) then))

    pub some_outcome : (from : S) (text : List A) → IsMet from → (Outcome from text → Goal) → Goal
    some_outcome from text is then = read_from from text (length text) [] from text is (omega arith) (record { leads = refl; are = refl }) then

  -- the outcome itself, where each look can be decided
  pub decided : ((q : S) (rest : List A) → IsMet q → Look q rest) → (from : S) (text : List A) → IsMet from → Outcome from text
  decided look from text is = some_outcome (Outcome from text) (λ q rest here then. then (look q rest here)) from text is (λ o. o)

  -- and that there is one can't be denied in any case
  pub undeniable : (from : S) (text : List A) → IsMet from → ((to : S) (rest : List A) → IsReading Step Closed from text to rest → ⊥) → ((n : ℕ) → IsFirstRefused Step Closed from text n → ⊥) → ⊥
  undeniable from text is unread unrefused = some_outcome ⊥ look from text is by
    where
      look : (q : S) (rest : List A) → IsMet q → (Look q rest → ⊥) → ⊥
      look q rest here deny = deny (is_stuck (λ piece after r cut step. deny (leads_on piece after r cut step)) (λ closed. deny (is_closed closed)))

      by : Outcome from text → ⊥
      by (is_read to rest reading) = unread to rest reading
      by (is_refused n refused) = unrefused n refused

-- ---- texts of a length at most

-- a text is too long, or short and refused for something: it has one reason, where a short text has one
pub one_by_length : {Fault : Type 0} (Short A B : Type 0) (long f g : Fault) → ((f ≡ long) × (Short → ⊥)) ⊎ (Short × A) → ((g ≡ long) × (Short → ⊥)) ⊎ (Short × B) → (A → B → f ≡ g) → f ≡ g
one_by_length Short A B long f g (inl far) (inl also) same = far.0 ∙ sym also.0
one_by_length Short A B long f g (inl far) (inr b) same = absurd (far.1 b.0)
one_by_length Short A B long f g (inr a) (inl far) same = absurd (far.1 a.0)
one_by_length Short A B long f g (inr a) (inr b) same = same a.1 b.1
