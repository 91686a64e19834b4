pub mod FreesBits
pub mod Bits
