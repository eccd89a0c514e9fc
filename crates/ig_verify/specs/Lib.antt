pub mod Takes
pub mod Sound
pub mod Flaws
pub mod Laws
pub mod Code
pub mod Kinds
