pub mod Code
pub mod Programs
pub mod Pairs
pub mod Streams
pub mod Workloads
