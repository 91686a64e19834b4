pub mod TreeTests
pub mod TreeBounds
pub mod RecordFields
