pub mod SpawnNexts
pub mod OpeningStages
pub mod ReadingStages
pub mod WordTests
pub mod TestingStages
pub mod ImageStages
pub mod WordLaws
