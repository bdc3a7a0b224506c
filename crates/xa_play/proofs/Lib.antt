pub mod Scripts
pub mod Settings
pub mod Crashes
pub mod Lawful
pub mod Playing
pub mod Ends
