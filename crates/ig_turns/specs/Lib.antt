pub mod Played
pub mod Turns
pub mod Rounds
pub mod Lists
pub mod Reads
pub mod Laws
