pub mod Barren
pub mod LoneRoot
