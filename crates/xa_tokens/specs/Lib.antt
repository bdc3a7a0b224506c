pub mod Believed
pub mod Steps
