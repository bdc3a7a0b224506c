pub mod Done
pub mod Copying
pub mod Accepting
pub mod Secrets
pub mod LoggedIn
pub mod Entries
pub mod Enrolled
