pub mod Cleared
pub mod Reading
pub mod OwnBlock
