pub mod Bodies
pub mod Declaring
