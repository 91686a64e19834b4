pub mod ServerViews
pub mod ServerRuns
