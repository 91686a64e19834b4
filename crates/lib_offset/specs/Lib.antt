pub mod OffsetStages
