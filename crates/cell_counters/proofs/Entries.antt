-- What one more entry in an account changes.
use Rattle.std.proofs.Common.{◌≡◌, ◌≢◌, ℕ, ◌==◌, Bool, true, false, cond, List, [], ◌∷◌, ◌++◌, map, filter, eq-eqb, ne_eqb, refl, sym, ap, ◌∙◌, zero, suc, arith, Any}
use Rattle.std.proofs.lemmas.List.{map-append}
use Rattle.cell_counters.specs.declared.account.Cut.{Cut}
use Rattle.cell_counters.specs.declared.account.Offer.{Offer}
use Rattle.cell_counters.specs.declared.account.Account.{Account}
use Rattle.cell_counters.specs.Accounts.{answers, offers_on}
use Rattle.cell_counters.specs.BoardModels.{with_cut, with_offer}
use Rattle.cell_counters.proofs.Lists.{filter_push_yes, filter_push_no}

pub answers-cut : (a : Account) (counter left : ℕ) → answers counter (with_cut a counter left) ≡ answers counter a ++ left ∷ []
answers-cut a counter left =
    let cut : Cut = record { counter = counter; left = left } in
    ap (map (λ (c : Cut). c.left)) (filter_push_yes (λ (c : Cut). c.counter == counter) a.cuts cut (eq-eqb counter counter refl))
    ∙ map-append (λ (c : Cut). c.left) (filter (λ (c : Cut). c.counter == counter) a.cuts) (cut ∷ [])

pub answers-other_cut : (a : Account) (counter other left : ℕ) → counter ≢ other → answers other (with_cut a counter left) ≡ answers other a
answers-other_cut a counter other left apart =
    let cut : Cut = record { counter = counter; left = left } in
    ap (map (λ (c : Cut). c.left)) (filter_push_no (λ (c : Cut). c.counter == other) a.cuts cut (ne_eqb counter other apart))

pub offers_on-offer : (a : Account) (word value : ℕ) (first : Bool) → offers_on word (with_offer a word value first) ≡ offers_on word a ++ record { word = word; value = value; first = first } ∷ []
offers_on-offer a word value first =
    let offer : Offer = record { word = word; value = value; first = first } in
    filter_push_yes (λ (o : Offer). o.word == word) a.offers offer (eq-eqb word word refl)

pub offers_on-other_offer : (a : Account) (word other value : ℕ) (first : Bool) → word ≢ other → offers_on other (with_offer a word value first) ≡ offers_on other a
offers_on-other_offer a word other value first apart =
    let offer : Offer = record { word = word; value = value; first = first } in
    filter_push_no (λ (o : Offer). o.word == other) a.offers offer (ne_eqb word other apart)

-- an account with an offer on a word has some
pub has_offer : (offers : List Offer) (word : ℕ) → Any (λ (o : Offer). o.word ≡ word) offers → ¬ (filter (λ (o : Offer). o.word == word) offers ≡ [])
has_offer [] word (k, o, lt, is, at) e = absurd (omega arith)
has_offer (x ∷ xs) word (zero, o, lt, is, at) e =
    absurd (cc (ap (λ b. cond b (x ∷ filter (λ (p : Offer). p.word == word) xs) (filter (λ (p : Offer). p.word == word) xs)) (sym (eq-eqb x.word word (ap (λ (p : Offer). p.word) is ∙ at))) ∙ e))
has_offer (x ∷ xs) word (suc k, o, lt, is, at) e =
    has_offer xs word (k, o, omega arith, is, at) (rest (x.word == word) e)
  where
    rest : (b : Bool) → cond b (x ∷ filter (λ (p : Offer). p.word == word) xs) (filter (λ (p : Offer). p.word == word) xs) ≡ [] → filter (λ (p : Offer). p.word == word) xs ≡ []
    rest true f = absurd (cc (f))
    rest false f = f
