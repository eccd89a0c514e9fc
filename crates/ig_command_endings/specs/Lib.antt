pub mod Change
pub mod Numbers
pub mod Notes
pub mod Stops
