pub mod TreeSteps
pub mod TreeMakes
