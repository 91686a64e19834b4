pub mod Keeping
pub mod Making
mod Buffers
mod Answering
mod Dispatch
pub mod Showing
pub mod PageCalls
pub mod Sending
pub mod Faulting
