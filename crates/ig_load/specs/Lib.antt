pub mod Operators
pub mod Input
pub mod Line
pub mod InputLaws
pub mod Grammar
pub mod Laws
pub mod Summary
