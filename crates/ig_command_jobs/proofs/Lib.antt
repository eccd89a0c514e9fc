pub mod Answering
pub mod Listings
pub mod Parsed
pub mod Tasked
pub mod Verified
mod Endings
mod Events
