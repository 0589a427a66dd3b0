use Rattle.std.proofs.Common.{◌≡◌, ℕ, ◌<◌, get_or}
use Rattle.plant_reading.specs.declared.statements.Keyword.TheVariants as keywords
use Rattle.plant_reading.specs.declared.statements.TheConstants.{KEYWORDS}
use Rattle.plant_reading.specs.inside.Keywords.{keyword_text}
use Rattle.plant_reading.proofs.statements.parse_keyword.Given as goal

-- the word is none of the keywords so far
abbrev pub invariant-loop-keyword : goal.invariant-loop-keyword
invariant-loop-keyword l = (i : ℕ) → i < l.keyword-index → l.word ≡ keyword_text (get_or KEYWORDS i keywords.Plant) → ⊥
