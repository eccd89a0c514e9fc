mod Played
mod Places
mod Strays
mod Totals
mod Reading
mod Naming
mod Written
