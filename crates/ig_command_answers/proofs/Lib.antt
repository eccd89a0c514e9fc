mod Telling
pub mod Pages
pub mod Starting
