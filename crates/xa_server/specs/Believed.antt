-- what must be believed (docs/BELIEVE.md)
pub mod Served
pub mod Serves
pub mod Loops
pub mod Audits
pub mod Watching
pub mod Moments
