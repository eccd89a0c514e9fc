pub mod Questions
pub mod Faults
pub mod Lines
pub mod Pages
