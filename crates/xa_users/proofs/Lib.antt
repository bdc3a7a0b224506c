pub mod Reading
pub mod Faulty
pub mod Looked
pub mod Entries
pub mod Ascii
pub mod Texts
pub mod OneList
pub mod Worked
