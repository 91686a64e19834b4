pub mod FinishingStages
pub mod UndoingStages
pub mod BirthStages
