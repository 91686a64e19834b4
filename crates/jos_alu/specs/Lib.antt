pub mod Registers
pub mod Flags
pub mod Shifts
pub mod Products
pub mod Laws
