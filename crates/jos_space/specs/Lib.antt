pub mod AtHand
pub mod Calls
pub mod Frames
