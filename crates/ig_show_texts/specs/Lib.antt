pub mod Listed
pub mod Room
pub mod ValueText
pub mod TagText
pub mod CoreText
pub mod ForestText
pub mod FactsText
