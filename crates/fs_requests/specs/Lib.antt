pub mod ServerWords
pub mod ServerPlans
