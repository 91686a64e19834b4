pub mod Standing
pub mod Walks
pub mod MadeRecords
pub mod Faultless
pub mod FileNames
pub mod MadeNodes
pub mod MadeEntries
pub mod MadeImages
pub mod MadeDisks
pub mod MadeTrees
mod FaultExamples
pub mod Spans
pub mod NamesSeen
pub mod FirstFault
pub mod Appended
pub mod GoodFiles
