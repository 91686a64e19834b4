pub mod Telling
pub mod FramesTaken
pub mod Driven
pub mod Laws
