pub mod First
pub mod Put
pub mod Time
pub mod Viewed
pub mod Heeds
pub mod Replays
pub mod Plans
pub mod Keeping
