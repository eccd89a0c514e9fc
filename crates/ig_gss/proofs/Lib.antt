pub mod Linked
pub mod Keyed
pub mod Grown
pub mod Shown
pub mod Called
pub mod Entered
pub mod Pairs
