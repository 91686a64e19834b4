pub mod ServerFew
pub mod ServerMemory
pub mod ServerSees
pub mod BlockSteps
pub mod ServerWhole
pub mod ServerSoon
pub mod ServerOthers
