-- Why a plant has no abstraction.
use Rattle.std.specs.Prelude.{◌<◌}
use Rattle.plant_record.specs.Description.{Description}
use Rattle.plant_game.specs.declared.build_fault.BuildFault.{BuildFault}
use Rattle.plant_game.specs.declared.build_fault.BuildFault.TheVariants.{TooManyEdges, Memory}
use Rattle.plant_game.specs.Abstraction.{AreEdges}
use Rattle.base.specs.declared.limits.TheConstants.{EDGES_LIMIT}

-- what a fault says of the plant: the number of its edges, which is past the limit
abbrev pub IsFaultOf : Description → BuildFault → Type 0
IsFaultOf p (TooManyEdges edges) = AreEdges p edges × (EDGES_LIMIT < edges)
IsFaultOf p Memory = Unit {0}
