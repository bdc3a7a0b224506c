pub mod Allowing
pub mod Carrying
pub mod Ending
pub mod Fronts
pub mod Turning
pub mod Inside
