-- The entries of a plant's deviations.
use Rattle.std.proofs.Common.{◌≡◌, ℕ, ◌<◌, List, [], length, map, get_or, sym, ap, ◌∙◌, arith}
use Rattle.std.specs.Prelude.{ℤ, pos}
use Rattle.std.proofs.lemmas.List.{length-map, get_or-map}
use Rattle.std.proofs.lemmas.List.FromFn.{length-map-range_with_len, get_or-map-range_with_len}
use Rattle.fixed_expr.specs.declared.expr.Expr.{Expr}
use Rattle.fixed_expr.specs.Expression.{Expression, NumExpr, expression_of}
use Rattle.plant_record.specs.Description.{Description, vectors_of}
use Rattle.successor_box.specs.SuccessorBoxes.{deviation_at}
use Rattle.plant_record.specs.Steps.{equation_at}
use Rattle.successor_box.specs.Deviations.{deviations_along, deviations_of}

-- as many equations as lie in memory
pub equations_count : (found : List Expr) (equations : List Expression) → map expression_of found ≡ equations → length found ≡ length equations
equations_count found equations same = sym (length-map found expression_of) ∙ ap length same

module _ (p : Description) (i : ℕ) (lt : i < length p.equations) where
  lane_is : get_or (deviations_of p) i [] ≡ deviations_along p (equation_at p i)
  lane_is = get_or-map (deviations_along p) p.equations i (NumExpr (pos 0)) [] lt

  pub lane_count : length (get_or (deviations_of p) i []) ≡ vectors_of p.inputs
  lane_count = ap length lane_is ∙ length-map-range_with_len (λ u. deviation_at p u (equation_at p i)) 0 (vectors_of p.inputs)

  pub entry_is : (u : ℕ) → u < vectors_of p.inputs → get_or (get_or (deviations_of p) i []) u (pos 0) ≡ deviation_at p u (equation_at p i)
  entry_is u below = ap (λ (lane : List ℤ). get_or lane u (pos 0)) lane_is ∙ get_or-map-range_with_len (λ u. deviation_at p u (equation_at p i)) 0 (vectors_of p.inputs) u u (pos 0) below (omega arith)

  -- the entry of all lanes that are at hand
  pub deviation_is : (lanes : List (List ℤ)) (u : ℕ) (d : ℤ) → u < vectors_of p.inputs → lanes ≡ deviations_of p → d ≡ get_or (get_or lanes i []) u (pos 0) → d ≡ deviation_at p u (equation_at p i)
  deviation_is lanes u d below same is = is ∙ ap (λ (r : List (List ℤ)). get_or (get_or r i []) u (pos 0)) same ∙ entry_is u below
