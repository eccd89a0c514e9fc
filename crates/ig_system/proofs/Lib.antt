pub mod WrittenParts
pub mod ReadParts
