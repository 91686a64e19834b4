pub mod HandlerStages
