pub mod Believed
pub mod Faults
pub mod Rows
