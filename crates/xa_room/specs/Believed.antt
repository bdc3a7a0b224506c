-- what must be believed (docs/BELIEVE.md)
pub mod Recorded
pub mod Audit
