pub mod FileTrees
pub mod FileBytes
mod FileExamples
pub mod OneTest
pub mod PathNames
pub mod PathParts
pub mod Written
mod DiskExamples
mod DiskDepth
pub mod DiskSound
pub mod Places
