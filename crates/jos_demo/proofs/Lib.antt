pub mod Instructions
pub mod Named
pub mod WorkCode
