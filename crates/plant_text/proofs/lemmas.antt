-- Lemmas that several proofs use.
pub mod CanonicalFronts
pub mod CanonicalParts
pub mod ExpressionTokens
pub mod FrontGrammar
pub mod LineGrammar
pub mod LineFaults
pub mod LinesLead
pub mod PlantEnds
pub mod Lists
pub mod PlantLines
pub mod RulesKept
pub mod SpelledCanonically
pub mod TreeLiterals
