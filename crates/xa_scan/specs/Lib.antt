pub mod Records
pub mod Objects
pub mod Lines
pub mod Faults
pub mod Scans
pub mod Worked
