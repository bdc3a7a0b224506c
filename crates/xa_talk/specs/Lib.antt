pub mod Exchanges
pub mod Numbers
pub mod Answers
pub mod Help
pub mod Talks
pub mod Ticks
pub mod Shutdowns
pub mod Logins
