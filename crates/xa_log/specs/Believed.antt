-- what must be believed (docs/BELIEVE.md)
pub mod Chain
pub mod Generation
pub mod LeftOut
pub mod Damage
pub mod Stands
pub mod Pair
pub mod Checkpoint
pub mod Laws
pub mod TwoFiles
pub mod Group
pub mod LogStates
pub mod LogView
pub mod Standing
pub mod Unfit
