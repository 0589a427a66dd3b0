-- What a reader refuses, where a part that it reads was refused.
use Rattle.std.proofs.Common.{◌≡◌, refl, subst}
use Rattle.std.specs.Prelude.{Result, Err}
use Rattle.std.specs.Result.{IsErrAnd}
use Rattle.std.proofs.lemmas.Result.{err_from_is_err_and}
use Rattle.line_words.specs.declared.line_fault.LineFault.{LineFault}
use Rattle.line_words.specs.declared.line_fault.LineFault.TheVariants.{Malformed, Memory}
use Rattle.line_words.specs.WordReaders.{Refuses, Finds, RefusesInPlace, FindsInPlace}

abbrev err : {X : Type 0} → LineFault → Result X LineFault
err e = Err e

-- what fits the whole has a part that fits
abbrev pub HasPart : {Y Z : Type 0} → (Z → Type 0) → (Y → Type 0) → Type 0
HasPart {Y} Whole Part = (z : _) → Whole z → (y : Y) × Part y

whole_refused : {Y Z : Type 0} (Whole : Z → Type 0) (Part : Y → Type 0) (e : LineFault) → Refuses Part e → HasPart Whole Part → Refuses Whole e
whole_refused Whole Part Malformed refused part = λ z h. refused (part z h).0 (part z h).1
whole_refused Whole Part Memory refused part = tt

-- the exit of a `?` on a part
pub exits : {X Y Z : Type 0} (view : X → Z) (Whole : Z → Type 0) (Part : Y → Type 0) (e : LineFault) (r : Result X LineFault) → IsErrAnd r (λ y. y ≡ e) → Refuses Part e → HasPart Whole Part → Finds view Whole r
exits view Whole Part e r err refused part =
    let p = err_from_is_err_and r err in
    rw (p.1, p.2) (whole_refused Whole Part e refused part)

-- the same of a part that asks for no memory
pub in_place : {Y : Type 0} (Part : Y → Type 0) (e : LineFault) → RefusesInPlace Part e → Refuses Part e
in_place Part Malformed refused = refused
in_place Part Memory refused = tt

pub exits_from_place : {X Y Z : Type 0} (view : X → Z) (Whole : Z → Type 0) (Part : Y → Type 0) (e : LineFault) (r : Result X LineFault) → IsErrAnd r (λ y. y ≡ e) → RefusesInPlace Part e → HasPart Whole Part → Finds view Whole r
exits_from_place view Whole Part e r err refused part = exits view Whole Part e r err (in_place Part e refused) part

-- and of a whole that asks for none either
refused_in_place : {Y Z : Type 0} (Whole : Z → Type 0) (Part : Y → Type 0) (e : LineFault) → RefusesInPlace Part e → HasPart Whole Part → RefusesInPlace Whole e
refused_in_place Whole Part Malformed refused part = λ z h. refused (part z h).0 (part z h).1
refused_in_place Whole Part Memory refused part = refused

pub exits_in_place : {X Y Z : Type 0} (view : X → Z) (Whole : Z → Type 0) (Part : Y → Type 0) (e : LineFault) (r : Result X LineFault) → IsErrAnd r (λ y. y ≡ e) → RefusesInPlace Part e → HasPart Whole Part → FindsInPlace view Whole r
exits_in_place view Whole Part e r err refused part =
    let p = err_from_is_err_and r err in
    rw (p.1, p.2) (refused_in_place Whole Part e refused part)

-- the same of a reader whose contract names its faults
pub refuses : {X Y : Type 0} (Part : Y → Type 0) (e : LineFault) → (err {X = X} e ≡ err {X = X} Malformed → (y : Y) → Part y → ⊥) → Refuses Part e
refuses Part Malformed h = h refl
refuses Part Memory h = tt

pub refused_whole : {X Y Z : Type 0} (Whole : Z → Type 0) (Part : Y → Type 0) (e : LineFault) (r : Result X LineFault) → IsErrAnd r (λ y. y ≡ e) → Refuses Part e → HasPart Whole Part → r ≡ Err Malformed → (z : Z) → Whole z → ⊥
refused_whole Whole Part e r err refused part is =
    let p = err_from_is_err_and r err in
    let same : e ≡ Malformed = cc (p.1, p.2, is) in
    let at : Refuses Whole Malformed = subst (Refuses Whole) same (whole_refused Whole Part e refused part) in
    at
