-- A tree by the rules means an expression of literals.
use Rattle.std.proofs.Common.{ℕ, arith}
use Rattle.std.proofs.lemmas.Int.{ints}
use Rattle.plant_record.specs.Equations.{HasLiterals}
use Rattle.expression_reading.specs.SyntaxTrees.{Syntax, NumTree, VarTree, NegTree, AddTree, SubTree, MulTree, DivTree, MinTree, MaxTree, AbsTree, LutTree, ParenTree, IsGrammatical, meaning_of}

pub tree_literals : (m : ℕ) (t : Syntax) → IsGrammatical m t → HasLiterals m (meaning_of t)
tree_literals m (NumTree k) g = (omega (arith, ints), g)
tree_literals m (VarTree i) g = g
tree_literals m (NegTree a) g = tree_literals m a g.0
tree_literals m (AddTree a b) g = (tree_literals m a g.0, tree_literals m b g.1)
tree_literals m (SubTree a b) g = (tree_literals m a g.0, tree_literals m b g.1)
tree_literals m (MulTree a b) g = (tree_literals m a g.0, tree_literals m b g.2)
tree_literals m (DivTree a k) g = (tree_literals m a g.0, omega (arith, ints, g.2), g.3)
tree_literals m (MinTree a b) g = (tree_literals m a g.0, tree_literals m b g.1)
tree_literals m (MaxTree a b) g = (tree_literals m a g.0, tree_literals m b g.1)
tree_literals m (AbsTree a) g = tree_literals m a g
tree_literals m (LutTree a points) g = (tree_literals m a g.0, g.1)
tree_literals m (ParenTree a) g = tree_literals m a g
