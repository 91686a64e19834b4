pub mod Values
pub mod Arguments
pub mod Commands
pub mod ClapCommands
