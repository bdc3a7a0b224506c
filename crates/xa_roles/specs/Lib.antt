pub mod Believed
pub mod Rows
