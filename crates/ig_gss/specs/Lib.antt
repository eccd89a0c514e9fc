pub mod Nodes
pub mod Chains
pub mod Places
pub mod Views
pub mod Laws
