pub mod Sums
pub mod Keeps
pub mod Audited
pub mod Allowed
