pub mod MakingStages
pub mod PipeStages
pub mod ShortLocks
