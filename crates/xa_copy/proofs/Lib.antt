pub mod Unbroken
pub mod Following
pub mod RecordBytes
pub mod Taking
pub mod Choosing
pub mod Pairs
pub mod Finishing
pub mod Current
pub mod Stills
mod Reading
mod Standing
mod Rounds
mod Opening
mod Renewing
mod Appends
