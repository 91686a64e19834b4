pub mod Lawful
pub mod Passes
pub mod Finished
pub mod Laid
