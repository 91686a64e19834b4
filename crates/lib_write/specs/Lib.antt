pub mod WriteStages
