-- what must be believed (docs/BELIEVE.md)
pub mod Account
pub mod Receipts
pub mod Rule
pub mod View
