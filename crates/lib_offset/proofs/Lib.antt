pub mod OffsetStarts
pub mod OffsetLaw
