pub mod ForkStages
