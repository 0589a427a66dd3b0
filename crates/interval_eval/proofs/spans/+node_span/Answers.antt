use Rattle.std.proofs.Common.{ap}
use Rattle.fixed_expr.specs.declared.operation.Binary.TheVariants.{AddOp, SubOp, MulOp, MinOp, MaxOp}
use Rattle.fixed_expr.specs.Expression.{Expression, NegExpr, AbsExpr, LutExpr, expression_of}
use Rattle.interval_eval.specs.Span.{neg_span, abs_span, lut_span}
use Rattle.interval_eval.proofs.Nodes.{one_node, of_part, of_parts}
use Rattle.interval_eval.proofs.spans.+node_span.Goals as goal

pub returns-in_ok-node_span-in-Add-2 : goal.returns-in_ok-node_span-in-Add-2
returns-in_ok-node_span-in-Add-2 t c =
    of_parts AddOp c.add_span.result c.args.area.now _ c.in-Add.a.value c.in-Add.b.value _ _ _ _ (ap expression_of c.in-Add.is) c.deref-in-Add.ensures c.deref-in-Add-2.ensures
    c.in_ok-node_span-in-Add.ensures c.in_ok-node_span-in-Add-2.ensures c.add_span.ensures

pub returns-in_ok-node_span-in-Sub-2 : goal.returns-in_ok-node_span-in-Sub-2
returns-in_ok-node_span-in-Sub-2 t c =
    of_parts SubOp c.sub_span.result c.args.area.now _ c.in-Sub.a.value c.in-Sub.b.value _ _ _ _ (ap expression_of c.in-Sub.is) c.deref-in-Sub.ensures c.deref-in-Sub-2.ensures
    c.in_ok-node_span-in-Sub.ensures c.in_ok-node_span-in-Sub-2.ensures c.sub_span.ensures

pub returns-in_ok-node_span-in-Mul-2 : goal.returns-in_ok-node_span-in-Mul-2
returns-in_ok-node_span-in-Mul-2 t c =
    of_parts MulOp c.mul_span.result c.args.area.now _ c.in-Mul.a.value c.in-Mul.b.value _ _ _ _ (ap expression_of c.in-Mul.is) c.deref-in-Mul.ensures c.deref-in-Mul-2.ensures
    c.in_ok-node_span-in-Mul.ensures c.in_ok-node_span-in-Mul-2.ensures c.mul_span.ensures

pub returns-in_ok-node_span-in-Min-2 : goal.returns-in_ok-node_span-in-Min-2
returns-in_ok-node_span-in-Min-2 t c =
    of_parts MinOp c.min_span.result c.args.area.now _ c.in-Min.a.value c.in-Min.b.value _ _ _ _ (ap expression_of c.in-Min.is) c.deref-in-Min.ensures c.deref-in-Min-2.ensures
    c.in_ok-node_span-in-Min.ensures c.in_ok-node_span-in-Min-2.ensures c.min_span.ensures

pub returns-in_ok-node_span-in-Max-2 : goal.returns-in_ok-node_span-in-Max-2
returns-in_ok-node_span-in-Max-2 t c =
    of_parts MaxOp c.max_span.result c.args.area.now _ c.in-Max.a.value c.in-Max.b.value _ _ _ _ (ap expression_of c.in-Max.is) c.deref-in-Max.ensures c.deref-in-Max-2.ensures
    c.in_ok-node_span-in-Max.ensures c.in_ok-node_span-in-Max-2.ensures c.max_span.ensures

pub returns-in_ok-node_span-in-Neg : goal.returns-in_ok-node_span-in-Neg
returns-in_ok-node_span-in-Neg t c =
    of_part NegExpr c.neg_span.result c.args.area.now _ c.in-Neg.a.value _ (ap expression_of c.in-Neg.is) c.deref.ensures (one_node c.neg_span.result _ neg_span _ _ c.in_ok-node_span-in-Neg.ensures c.neg_span.ensures)

pub returns-in_ok-node_span-in-Abs : goal.returns-in_ok-node_span-in-Abs
returns-in_ok-node_span-in-Abs t c =
    of_part AbsExpr c.abs_span.result c.args.area.now _ c.in-Abs.a.value _ (ap expression_of c.in-Abs.is) c.deref-in-Abs.ensures (one_node c.abs_span.result _ abs_span _ _ c.in_ok-node_span-in-Abs.ensures c.abs_span.ensures)

pub returns-in_ok-node_span-in-Lut : goal.returns-in_ok-node_span-in-Lut
returns-in_ok-node_span-in-Lut t c =
    of_part (λ (a : Expression). LutExpr a c.in-Lut.curve) c.lut_span.result c.args.area.now _ c.in-Lut.a.value _ (ap expression_of c.in-Lut.is) c.deref-in-Lut.ensures (one_node c.lut_span.result _ (lut_span c.in-Lut.curve) _ _ c.in_ok-node_span-in-Lut.ensures c.lut_span.ensures)
