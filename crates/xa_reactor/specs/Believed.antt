-- what must be believed (docs/BELIEVE.md)
pub mod Tending
pub mod Down
