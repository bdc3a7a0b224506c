pub mod Done
pub mod Decimals
pub mod Talking
pub mod Pieces
pub mod Counting
pub mod Confirming
pub mod Looking
pub mod Pages
