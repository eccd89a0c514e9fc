pub mod Parses
pub mod Faults
pub mod Laws
pub mod FactLaws
