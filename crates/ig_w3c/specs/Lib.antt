pub mod Steps
pub mod Outcome
pub mod Laws
pub mod Text
pub mod Writing
pub mod TextLaws
