pub mod MemoryPlans
