-- What proofs of the crates above cite.
use Rattle.std.proofs.Common.{◌≡◌, ℕ, List}
use Rattle.std.specs.Prelude.{ℤ, pos, ◌-ℤ◌, IsTrue, slice_index_or}
use Rattle.fixed_expr.specs.Expression.{Expression}
use Rattle.fixed_expr.specs.Shifts.{shifts_with}
use Rattle.fixed_expr.specs.Value.{value_of}
use Rattle.fixed_expr.specs.inside.Alike.{AreSameIn, AreSameBut}
use Rattle.fixed_expr.proofs.ShiftedValues as shifts
use Rattle.fixed_expr.proofs.Values as values
pub use Rattle.fixed_expr.proofs.Pieces.{floors_in_order, piece_between, at_left, at_right, on_piece, after_piece, before_first}
pub use Rattle.fixed_expr.proofs.LaneSteps.{one_lane_more}

-- the value of an expression rests on the variables that stand in it alone
pub values_depend_on_variables : (e : Expression) (xs ys : List ℤ) → AreSameIn (pos 0) e xs ys → value_of e xs ≡ value_of e ys
values_depend_on_variables e xs ys same = values.agree xs ys e same

-- an expression that shifts with a variable has one value less that variable, wherever the other variables are the same
pub values_shift_with_variables : (e : Expression) (k : ℕ) (xs ys : List ℤ) → IsTrue (shifts_with e k) → AreSameBut k e xs ys → value_of e xs -ℤ slice_index_or xs k (pos 0) ≡ value_of e ys -ℤ slice_index_or ys k (pos 0)
values_shift_with_variables e k xs ys is same = shifts.shifts k xs ys e is same
