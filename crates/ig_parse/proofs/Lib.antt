pub mod Parsing
pub mod Queries
pub mod Alternatives
pub mod Declared
pub mod Cycles
