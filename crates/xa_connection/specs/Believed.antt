-- what must be believed (docs/BELIEVE.md)
pub mod Access
