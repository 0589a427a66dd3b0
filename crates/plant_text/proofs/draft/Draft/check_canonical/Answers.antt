use Rattle.std.proofs.Common.{refl}
use Rattle.plant_text.proofs.draft.Draft.check_canonical.Goals as goal

pub returns-then-not-fits_in_order-clause-refused : goal.returns-then-not-fits_in_order-clause-refused
returns-then-not-fits_in_order-clause-refused c = λ _ next. (let unfit = c.if-not-fits_in_order.ensures.1 (next.fits, next.order) in cc)

pub returns-then-not-branch-clause-refused : goal.returns-then-not-branch-clause-refused
returns-then-not-branch-clause-refused c = λ _ next. (let same = c.in_ok-is_canonical.ensures.1 next.spelling in let other = c.if-not-branch.true in cc)

pub returns-clause-taken : goal.returns-clause-taken
returns-clause-taken c =
    let fits = c.if-not-fits_in_order.ensures.0 refl in
    record { fits = fits.0; order = fits.1; spelling = c.in_ok-is_canonical.ensures.0 c.if-not-branch.false }
