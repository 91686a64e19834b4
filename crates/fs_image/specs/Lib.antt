pub mod Answers
pub mod DiskHeld
pub mod FaultTexts
pub mod Pieces
pub mod Walk
