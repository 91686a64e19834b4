pub mod WaitStages
pub mod SpawnParts
