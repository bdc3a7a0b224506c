-- what must be believed (docs/BELIEVE.md)
pub mod Manages
pub mod Together
pub mod Book
pub mod Upholds
pub mod Promises
