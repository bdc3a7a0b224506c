pub mod Believed
pub mod Status
