pub mod MemoryProofs
pub mod TestMemory
