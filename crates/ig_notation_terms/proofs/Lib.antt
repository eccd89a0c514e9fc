pub mod LimitParts
pub mod Stored
pub mod Names
pub mod ExpressionParts
pub mod FilterParts
pub mod Around
