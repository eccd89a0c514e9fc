pub mod Report
pub mod CodeReport
pub mod Spans
pub mod Ambiguity
pub mod CodeAmbiguity
pub mod InTrees
pub mod Laws
