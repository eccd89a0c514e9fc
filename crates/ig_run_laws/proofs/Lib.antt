pub mod Fewer
pub mod Grown
pub mod Known
pub mod Steps
pub mod Forms
pub mod Taking
pub mod After
pub mod Meeting
pub mod Events
pub mod Trails
pub mod Furthers
pub mod Whole
pub mod Fresh
pub mod FirstCalls
pub mod Budgets
pub mod Beginning
pub mod LeastNames
mod Least
mod Tabled
