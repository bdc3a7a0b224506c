pub mod Believed
pub mod HasMet
pub mod Keeping
