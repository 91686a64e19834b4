pub mod StackPages
pub mod Waits
pub mod WaitLaw
pub mod SpawnLaw
