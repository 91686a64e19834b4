pub mod CachePlans
pub mod CachePlaces
