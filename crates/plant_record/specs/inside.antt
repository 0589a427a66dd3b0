-- What only private clauses and proofs name.
pub mod EquationValues
pub mod PlantsInMemory
