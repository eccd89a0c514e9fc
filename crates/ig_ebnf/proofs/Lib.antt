pub mod CodeOfMade
pub mod CodeOfGrowth
pub mod CodeOfPass
