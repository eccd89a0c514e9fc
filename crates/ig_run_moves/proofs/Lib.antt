pub mod Linking
pub mod Standing
mod Shuffled
mod Keeping
mod Returning
pub mod Growing
pub mod Pasts
pub mod Steps
pub mod Coming
pub mod Callees
