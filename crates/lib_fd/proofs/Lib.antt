pub mod EndPages
pub mod Closing
pub mod CloseLaw
pub mod Exits
pub mod ExitLaw
pub mod DupReads
pub mod DupChanges
pub mod DupLaw
