pub mod BlockActs
pub mod BlockLaws
