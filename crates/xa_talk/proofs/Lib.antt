pub mod Numbered
pub mod Calls
pub mod Lines
pub mod Reading
pub mod Ticking
