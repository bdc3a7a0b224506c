pub mod Frames
pub mod Serving
