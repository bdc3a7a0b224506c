pub mod Adding
pub mod Alone
pub mod Grouping
pub mod Few
pub mod Placing
pub mod Asking
pub mod Pendings
pub mod Keeping
