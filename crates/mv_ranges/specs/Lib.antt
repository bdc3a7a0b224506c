pub mod Ranges
pub mod Marks
pub mod Notes
pub mod Rows
