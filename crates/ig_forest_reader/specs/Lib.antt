pub mod Written
pub mod Runs
pub mod Shown
pub mod Checks
