pub mod Believed
pub mod Fronts
pub mod Calls
pub mod Carries
pub mod Talked
