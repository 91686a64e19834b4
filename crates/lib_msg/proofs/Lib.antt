pub mod Looking
pub mod Entries
pub mod Sending
pub mod SendLaw
pub mod Entering
pub mod Receiving
pub mod ReceiveLaw
