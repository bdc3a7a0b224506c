pub mod Longer
pub mod Together
