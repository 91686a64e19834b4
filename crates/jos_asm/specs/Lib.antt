pub mod Items
pub mod Program
pub mod Calls
pub mod Laid
pub mod Labels
pub mod FaultTexts
