pub mod WalkPlans
