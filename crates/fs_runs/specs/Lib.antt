pub mod JobCalls
pub mod TreePlans
pub mod TreeRuns
