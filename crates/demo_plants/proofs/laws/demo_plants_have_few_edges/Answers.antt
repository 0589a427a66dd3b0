use Rattle.demo_plants.proofs.FewEdges.{few_edges}
use Rattle.demo_plants.proofs.laws.demo_plants_have_few_edges.Goals as goal

pub returns : goal.returns
returns c = few_edges
