pub mod Holdings
pub mod Lent
pub mod ChunkLending
