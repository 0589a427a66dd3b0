mod Pieces
mod Replies
pub mod OneText
mod Told
pub mod ByText
pub mod TurnChanges
pub mod Answering
pub mod TableLoops
pub mod TemporalLoops
pub mod TextRefusals
pub mod RefusedTexts
pub mod SameBox
mod NextBoxes
