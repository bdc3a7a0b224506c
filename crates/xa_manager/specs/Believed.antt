-- what must be believed (docs/BELIEVE.md)
pub mod Parts
pub mod LogStands
pub mod Answered
pub mod Counted
pub mod Files
pub mod Opening
pub mod Refused
pub mod CrashLaws
pub mod Crash
pub mod CrashOpening
pub mod Promises
pub mod Together
pub mod Pending
