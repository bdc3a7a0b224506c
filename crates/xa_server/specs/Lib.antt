pub mod Believed
pub mod Faults
pub mod Histories
pub mod Lines
pub mod Logging
pub mod Reports
pub mod Rounds
pub mod Settled
