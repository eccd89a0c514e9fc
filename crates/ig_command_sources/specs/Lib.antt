pub mod Texts
pub mod Accepted
pub mod Refusals
pub mod Sources
pub mod Laws
