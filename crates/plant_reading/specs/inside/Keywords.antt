-- The words that statements begin with. No public clause names this.
use Rattle.std.specs.Prelude.{ℕ, List, codes}
use Rattle.plant_reading.specs.declared.statements.Keyword.{Keyword}
use Rattle.plant_reading.specs.declared.statements.Keyword.TheVariants as keywords

-- the word that a statement begins with
abbrev pub keyword_text : Keyword → List ℕ
keyword_text keywords.Plant = codes "plant"
keyword_text keywords.State = codes "state"
keyword_text keywords.Input = codes "input"
keyword_text keywords.Noise = codes "noise"
keyword_text keywords.Next = codes "next"
keyword_text keywords.Target = codes "target"
keyword_text keywords.Obstacle = codes "obstacle"
keyword_text keywords.Goal = codes "goal"
keyword_text keywords.End = codes "end"
