pub mod Durable
pub mod Last
pub mod Listing
pub mod Log
pub mod Rebuilding
pub mod Snapshots
