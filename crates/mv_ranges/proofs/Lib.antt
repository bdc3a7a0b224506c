pub mod Boundaries
pub mod Raised
pub mod Written
pub mod LeftOut
