pub mod Booking
pub mod Calling
pub mod Groups
pub mod Halving
pub mod Letters
pub mod Owed
pub mod Trayed
