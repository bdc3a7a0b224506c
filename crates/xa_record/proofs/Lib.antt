pub mod Fields
pub mod Bodies
pub mod Loop
pub mod Sizes
pub mod Rows
