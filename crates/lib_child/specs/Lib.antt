pub mod ChildNexts
pub mod ChildSegments
pub mod BearingStages
pub mod RecordLaws
