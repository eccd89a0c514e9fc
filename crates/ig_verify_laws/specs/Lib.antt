pub mod Ranges
pub mod ReducedLaws
pub mod NameLaws
pub mod IntegerLaws
pub mod CertificateLaws
