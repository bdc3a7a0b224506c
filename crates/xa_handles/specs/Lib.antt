pub mod Believed
pub mod Counts
pub mod Mail
pub mod Owing
pub mod Telling
