pub mod Passing
pub mod Asking
pub mod Refusing
pub mod Dropping
pub mod Making
pub mod Printing
pub mod MemoryLaw
