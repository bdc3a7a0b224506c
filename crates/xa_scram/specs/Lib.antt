pub mod Believed
pub mod Keying
pub mod Cutting
pub mod Reading
pub mod Rows
pub mod Laws
