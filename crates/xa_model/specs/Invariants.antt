-- What every state of a history has, and what a log's records say of the state that they back.
pub mod Sound
pub mod MayLog
pub mod Loggable
pub mod Backing
pub mod Restored
pub mod Room
pub mod LowWater
