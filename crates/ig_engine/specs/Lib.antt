pub mod FirstCalls
pub mod Reached
pub mod Adding
pub mod Given
pub mod Stepping
pub mod Running
pub mod CodingRunning
