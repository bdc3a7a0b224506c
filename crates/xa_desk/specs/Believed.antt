-- what must be believed (docs/BELIEVE.md)
pub mod Frames
pub mod Serving
