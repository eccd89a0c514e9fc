pub mod TreeText
pub mod Nesting
pub mod ReportText
pub mod QueryText
pub mod Laws
