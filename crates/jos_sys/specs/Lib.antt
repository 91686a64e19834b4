pub mod Messages
pub mod System
