pub mod ChangePlans
