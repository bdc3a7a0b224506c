pub mod Limits
pub mod Spelling
pub mod Answers
pub mod Reading
