pub mod Slots
pub mod SlotSets
pub mod Table
pub mod Lawful
