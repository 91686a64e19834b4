pub mod TreeWords
pub mod WordsLeft
