pub mod Named
pub mod Outcome
pub mod Frames
pub mod Filled
