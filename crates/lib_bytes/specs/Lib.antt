pub mod FileStages
