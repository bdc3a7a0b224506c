-- what must be believed (docs/BELIEVE.md)
pub mod Users
pub mod Logins
pub mod Entries
