-- The span of an operation, given those of its parts.
use Rattle.std.proofs.Common.{◌≡◌, List, Option, Some, None, SomeIff, sym, ap, ap₂, subst, ◌∙◌}
use Rattle.fixed_expr.specs.declared.operation.Binary.{Binary}
use Rattle.fixed_expr.specs.declared.operation.Binary.TheVariants.{AddOp}
use Rattle.fixed_expr.specs.declared.expr.Expr.{Expr}
use Rattle.fixed_expr.specs.Expression.{Expression, expression_of}
use Rattle.fixed_expr.specs.inside.Combinations.{combined}
use Rattle.interval_eval.specs.declared.interval.Interval.{Interval}
use Rattle.interval_eval.specs.Span.{EndsFit, span_of, SpanStaysInRange}
use Rattle.interval_eval.specs.inside.Combined.{combined_interval}

-- an answer is the span of an expression
abbrev pub AnswersSpan : Option Interval → Expression → List Interval → Type 0
AnswersSpan found e area = SomeIff found (SpanStaysInRange e area) (span_of e area)

two_nodes : (found : Option Interval) (A B : Type 0) (F : Interval → Interval → Interval) (x y a b : Interval) → A × (x ≡ a) → B × (y ≡ b) → SomeIff found (EndsFit (F x y)) (F x y) → SomeIff found (A × B × EndsFit (F a b)) (F a b)
two_nodes None A B F x y a b p q h = λ all. h (subst EndsFit (sym (ap₂ F p.1 q.1)) all.2)
two_nodes (Some s) A B F x y a b p q h = ((p.0, q.0, subst EndsFit (ap₂ F p.1 q.1) h.0), h.1 ∙ ap₂ F p.1 q.1)

pub one_node : (found : Option Interval) (A : Type 0) (F : Interval → Interval) (x a : Interval) → A × (x ≡ a) → SomeIff found (EndsFit (F x)) (F x) → SomeIff found (A × EndsFit (F a)) (F a)
one_node None A F x a p h = λ all. h (subst EndsFit (sym (ap F p.1)) all.1)
one_node (Some s) A F x a p h = ((p.0, subst EndsFit (ap F p.1) h.0), h.1 ∙ ap F p.1)

-- of an expression whose part stands elsewhere, too
pub of_part : (E : Expression → Expression) (found : Option Interval) (area : List Interval) (e : Expression) (held a : Expr) → e ≡ E (expression_of held) → a ≡ held → AnswersSpan found (E (expression_of a)) area → AnswersSpan found e area
of_part E found area e held a is same answer =
    subst (λ (f : Expression). AnswersSpan found f area) (sym (is ∙ ap (λ (part : Expr). E (expression_of part)) (sym same))) answer

both_parts : (binary : Binary) (found : Option Interval) (area : List Interval) (a b : Expression) (x y : Interval) → SpanStaysInRange a area × (x ≡ span_of a area) → SpanStaysInRange b area × (y ≡ span_of b area)
    → SomeIff found (EndsFit (combined_interval binary x y)) (combined_interval binary x y) → AnswersSpan found (combined binary a b) area
both_parts AddOp found area a b x y p q answer = two_nodes found _ _ (combined_interval AddOp) x y _ _ p q answer
both_parts binary found area a b x y p q answer = two_nodes found _ _ (combined_interval binary) x y _ _ p q answer

pub of_parts : (binary : Binary) (found : Option Interval) (area : List Interval) (e : Expression) (held_a held_b a b : Expr) (x y : Interval) → e ≡ combined binary (expression_of held_a) (expression_of held_b) → a ≡ held_a → b ≡ held_b
    → SpanStaysInRange (expression_of a) area × (x ≡ span_of (expression_of a) area) → SpanStaysInRange (expression_of b) area × (y ≡ span_of (expression_of b) area)
    → SomeIff found (EndsFit (combined_interval binary x y)) (combined_interval binary x y) → AnswersSpan found e area
of_parts binary found area e held_a held_b a b x y is same_a same_b p q answer =
    subst (λ (f : Expression). AnswersSpan found f area) (sym (is ∙ ap₂ (λ (first second : Expr). combined binary (expression_of first) (expression_of second)) (sym same_a) (sym same_b)))
    (both_parts binary found area (expression_of a) (expression_of b) x y p q answer)
