pub mod SendStages
pub mod ReceiveStages
