pub mod Asks
pub mod Nexts
pub mod ServiceSteps
