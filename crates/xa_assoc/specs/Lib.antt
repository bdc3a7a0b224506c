pub mod Changes
pub mod Company
pub mod Free
pub mod Own
pub mod Refusals
pub mod Seats
pub mod Sessions
