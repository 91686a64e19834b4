pub mod CacheStands
pub mod CacheSteps
