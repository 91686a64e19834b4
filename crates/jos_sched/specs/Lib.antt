pub mod RoundRobin
pub mod Quantum
pub mod Schedule
