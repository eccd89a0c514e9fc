pub mod Words
pub mod Commands
pub mod Rows
pub mod Laws
