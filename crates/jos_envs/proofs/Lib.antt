mod Sets
mod Laws
pub mod Kept
