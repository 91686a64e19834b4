pub mod MakeFaults
pub mod MadeImage
pub mod MadeLaws
pub mod FaultTexts
