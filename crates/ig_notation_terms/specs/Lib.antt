pub mod Limits
pub mod Readers
pub mod Steps
pub mod Lists
pub mod Repetitions
pub mod Parts
