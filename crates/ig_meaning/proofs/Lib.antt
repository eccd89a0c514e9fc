pub mod Inversion
pub mod Spans
pub mod Growth
pub mod Clean
pub mod Labels
pub mod Roots
pub mod Annotation
mod Tags
mod Tiling
mod Telling
mod Equality
mod BindingInversion
mod Determined
mod Completeness
mod Listing
