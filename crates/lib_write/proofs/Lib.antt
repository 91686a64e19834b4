pub mod BeginLaw
pub mod GatherLaw
pub mod KeepLaw
pub mod PrintLaw
pub mod EndLaw
pub mod WriteLaw
