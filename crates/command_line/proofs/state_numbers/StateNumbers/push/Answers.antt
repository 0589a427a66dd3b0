use Rattle.std.proofs.Common.{◌++◌, ◌∷◌, [], ℤ, List, ap, ◌∙◌}
use Rattle.std.specs.Int.{w128}
use Rattle.std.proofs.lemmas.Int.{to_z-of_z}
use Rattle.command_line.proofs.MoreNumbers.{has_capacity, pushed, stored_more}
use Rattle.command_line.proofs.state_numbers.StateNumbers.push.Goals as goal

pub invariant_of-self : goal.invariant_of-self
invariant_of-self c =
    let s = c.self.inside in
    rw (to_z-of_z w128 c.args.number c.ranges.number) (stored_more s.six s.count c.args.number c.self.invariant (has_capacity s.six s.count c.args.self.now c.self.invariant c.self.view_is c.requires))

pub returns : goal.returns
returns c =
    let s = c.self.inside in
    rw (to_z-of_z w128 c.args.number c.ranges.number)
    (pushed s.six s.count c.args.number c.self.invariant (has_capacity s.six s.count c.args.self.now c.self.invariant c.self.view_is c.requires)
    ∙ ap (λ (numbers : List ℤ). numbers ++ c.args.number ∷ []) c.self.view_is)
