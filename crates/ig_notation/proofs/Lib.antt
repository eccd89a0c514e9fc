pub mod SymbolParts
pub mod DeclarationParts
pub mod Outcomes
pub mod Readings
pub mod Regularity
pub mod Forms
