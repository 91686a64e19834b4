pub mod Buffers
pub mod Finding
pub mod Keeping
