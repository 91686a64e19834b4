pub mod TerminalBytes
pub mod EndLaw
pub mod StatLaw
pub mod ReadLaw
pub mod PipeBytes
