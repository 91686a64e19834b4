pub mod Asked
pub mod Count
pub mod Files
pub mod Frames
pub mod Gains
pub mod MemHost
pub mod Told
