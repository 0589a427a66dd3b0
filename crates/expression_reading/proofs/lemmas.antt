-- Lemmas that several proofs use.
pub mod CurvePoints
pub mod ExpressionLaws
pub mod ExpressionsRead
pub mod KindSpelling
pub mod Literals
pub mod ReadIsSpelled
pub mod ReadParts
pub mod ReadingSteps
pub mod RisingPoints
pub mod SpelledIsRead
pub mod TreeKinds
