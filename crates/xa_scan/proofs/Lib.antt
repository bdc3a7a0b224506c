pub mod Rows
pub mod Offsets
pub mod Printing
pub mod Looking
