pub mod Nested
pub mod CursorTexts
pub mod SortedTexts
pub mod Reporting
pub mod Added
