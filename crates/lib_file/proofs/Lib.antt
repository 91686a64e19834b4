pub mod Finds
pub mod BufferLaw
pub mod FaultingLaw
pub mod Moves
