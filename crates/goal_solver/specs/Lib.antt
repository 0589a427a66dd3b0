pub mod SolvedGames
pub mod GoalScratch
