pub mod Sums
pub mod KeywordTexts
pub mod NamePlaces
mod TabWidths
pub mod FirstPlaces
