pub mod Headers
pub mod Tests
pub mod Parsed
pub mod Written
pub mod FaultTexts
pub mod StackPage
pub mod Pages
pub mod Started
