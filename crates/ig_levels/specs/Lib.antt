pub mod Spines
pub mod Levels
pub mod Laws
pub mod Tables
pub mod Roles
pub mod Numbered
