pub mod ReadStages
pub mod StatStages
