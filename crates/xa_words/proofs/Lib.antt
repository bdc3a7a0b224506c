pub mod Building
pub mod Commands
pub mod Reading
pub mod Naming
pub mod Worked
