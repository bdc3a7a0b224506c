pub mod Limits
pub mod Spelling
pub mod Reading
pub mod Small
pub mod Answers
