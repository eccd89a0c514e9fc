pub mod Waiting
pub mod Finding
pub mod Tables
pub mod Rules
pub mod Laws
