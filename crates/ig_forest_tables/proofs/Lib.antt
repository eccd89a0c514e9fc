pub mod StoredNodes
pub mod StoredNodeParts
pub mod StoredItems
pub mod Reading
