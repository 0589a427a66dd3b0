-- What finds boxes.
use Rattle.plant_record.specs.Description.{Description}
use Rattle.pair_boxes.specs.declared.box_finder.BoxFinder.{BoxFinder}
use Rattle.pair_boxes.specs.inside.Terms.{AreTermTablesOf}

-- the plant whose boxes are found
abbrev pub plant_of : BoxFinder → Description
plant_of finder = finder.sampled.plant.now

-- the terms of each state were found for the plant
abbrev pub IsReady : BoxFinder → Type 0
IsReady finder = AreTermTablesOf (plant_of finder) finder.tables.items
