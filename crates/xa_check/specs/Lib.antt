pub mod Prepared
pub mod Told
pub mod Fit
pub mod Lines
pub mod Checks
pub mod Opens
