pub mod Allowed
pub mod Setting
pub mod Body
pub mod Blocks
pub mod Laws
pub mod ColumnCode
pub mod FormCode
