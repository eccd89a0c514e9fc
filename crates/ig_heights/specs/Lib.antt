pub mod Fits
pub mod Heights
pub mod Laws
pub mod Rules
pub mod Table
pub mod Uses
pub mod Work
