pub mod Counts
pub mod Told
pub mod Fetch
pub mod States
pub mod Put
pub mod MemoryShelf
pub mod MemorySink
