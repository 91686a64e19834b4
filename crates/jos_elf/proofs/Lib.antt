pub mod Tests
pub mod Facts
pub mod Parsed
pub mod Written
