-- what must be believed (docs/BELIEVE.md)
pub mod Accounts
pub mod Standing
pub mod Posted
pub mod Shared
