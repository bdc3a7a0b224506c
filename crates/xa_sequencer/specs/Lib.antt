pub mod Believed
pub mod Associates
pub mod Manages
