pub mod Soundness
pub mod Below
pub mod Standing
pub mod Choosing
pub mod KindTable
pub mod Fitting
