use Rattle.std.proofs.Common.{◌≡◌, ℕ, List, length, ◌∷◌, subst}
use Rattle.std.specs.Prelude.{codes}
use Rattle.std.specs.List.{flat_map}
use Rattle.plant_record.specs.Parts.{variable_names}
use Rattle.plant_reading.specs.StatementsRead.{statement_of}
use Rattle.plant_reading.specs.Statements.{States}
use Rattle.expression_reading.specs.SyntaxTrees.{AreTokensOf}
use Rattle.line_words.specs.Words.{words_of}
use Rattle.line_words.specs.Tokens.{tokens_of}
use Rattle.line_words.proofs.lemmas.RefusalsPassOn.{exits, refuses}
use Rattle.plant_reading.proofs.lemmas.OneStatement.{only_next}
use Rattle.plant_reading.proofs.statements.equation_after.Goals as goal

pub returns-in_err-equation : goal.returns-in_err-equation
returns-in_err-equation c =
    let names = variable_names c.args.variables.now in
    let n = length c.args.variables.now.states.items in
    let Part = AreTokensOf names (flat_map tokens_of (words_of c.in_ok-rest.rest.now)) in
    exits statement_of (States names n (codes "next" ∷ words_of c.args.bytes.now)) Part c.in_err-equation.field-0.0 _ c.from_residual-in_err-equation.ensures.1 (refuses Part c.in_err-equation.field-0.0 c.in_err-equation.ensures.refused)
    (λ s h.
    let next = only_next names n (words_of c.args.bytes.now) s h in
    let same : next.2 ≡ words_of c.in_ok-rest.rest.now = cc (next.3, c.in-Some.ensures.word, c.in_ok-rest.ensures) in
    (next.1, subst (λ (ws : List (List ℕ)). AreTokensOf names (flat_map tokens_of ws) next.1) same next.4))
