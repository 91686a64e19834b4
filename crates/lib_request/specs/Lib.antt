pub mod OpenStages
pub mod PathStages
pub mod RemoveStages
pub mod PageRequests
pub mod Replies
pub mod SyncStages
