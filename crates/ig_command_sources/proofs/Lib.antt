mod Added
pub mod Written
pub mod GrammarTexts
pub mod Loading
mod Recorded
pub mod OfNotation
pub mod Either
