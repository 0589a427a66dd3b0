-- Limits in reports.
use Rattle.std.specs.Prelude.{ℕ, List, codes}
use Rattle.plant_record.specs.declared.limit_kind.LimitKind.{LimitKind}
use Rattle.plant_record.specs.declared.limit_kind.LimitKind.TheVariants.{PlantText, TableText, Vectors, Cells, Pairs, Edges}

-- the text by which a report names a limit
abbrev pub limit_line : LimitKind → List ℕ
limit_line PlantText = codes "plant text"
limit_line TableText = codes "table text"
limit_line Vectors = codes "vectors"
limit_line Cells = codes "cells"
limit_line Pairs = codes "pairs"
limit_line Edges = codes "edges"
