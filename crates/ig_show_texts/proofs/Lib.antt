pub mod Pieces
pub mod CoreAdded
pub mod CoreListing
pub mod ForestListing
pub mod FactsAdded
