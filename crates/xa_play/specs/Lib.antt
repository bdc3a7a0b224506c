pub mod Runs
pub mod Disks
pub mod Plays
pub mod Played
pub mod Faults
