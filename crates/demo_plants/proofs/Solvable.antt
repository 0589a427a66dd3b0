-- Nothing refuses a demo plant.
use Rattle.std.proofs.Common.{◌≡◌, ℕ, arith, refl}
use Rattle.plant_record.specs.declared.aims.GoalKind.TheVariants.{Reach}
use Rattle.demo_plants.specs.Demo.{demo_plant_of}
use Rattle.demo_plants.specs.Laws.{DemoPlantsAreSolvable}
use Rattle.demo_plants.proofs.FewEdges.{few_edges}
use Rattle.demo_plants.proofs.Overflows as overflows
use Rattle.demo_plants.proofs.Sizes.{within_limits}

aims_at_targets : (n : ℕ) → (demo_plant_of n).goal ≡ Reach
unfolding demo_plant_of
aims_at_targets n = refl

pub solvable : DemoPlantsAreSolvable
solvable n size = record {
  goal = aims_at_targets n;
  limits = (within_limits n size).limits;
  no_overflow = overflows.no_overflow n size;
  edges = λ m edges many. let few = few_edges n m size edges in omega (arith, few, many, size.1);
}
