pub mod Compiled
pub mod Names
pub mod Chained
pub mod Extends
pub mod InstanceSet
pub mod Returned
