pub mod CallsLive
pub mod WordsSet
pub mod Stopped
pub mod JobsWorked
pub mod Flushed
pub mod ServerMade
