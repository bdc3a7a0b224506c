-- what must be believed (docs/BELIEVE.md)
pub mod Stands
pub mod Numbers
pub mod Together
pub mod GroupManager
