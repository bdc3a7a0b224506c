pub mod Shutdown
pub mod Messages
pub mod Controls
pub mod Answers
pub mod Laws
pub mod Rows
