pub mod Forest
pub mod Unfold
pub mod Orders
pub mod Views
pub mod StoredNodes
pub mod StoredItems
pub mod Tables
