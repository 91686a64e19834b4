pub mod Refusals
pub mod Addresses
pub mod StackWords
pub mod Strings
pub mod PathPlan
pub mod GivenPlan
pub mod FitLaws
