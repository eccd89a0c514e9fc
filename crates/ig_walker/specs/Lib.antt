pub mod Listing
pub mod Listed
pub mod Laws
pub mod Walks
pub mod Options
pub mod Written
pub mod Behind
pub mod States
