-- What only private clauses and proofs name.
pub mod BandCuts
pub mod BandRows
pub mod CellRanges
pub mod FanCounts
pub mod IntakeLaws
pub mod Intakes
pub mod ListedSegments
pub mod Props
pub mod Tallies
