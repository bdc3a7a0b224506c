-- what must be believed (docs/BELIEVE.md)
pub mod Keyed
pub mod Keys
pub mod Limits
pub mod Messages
pub mod Exchanges
