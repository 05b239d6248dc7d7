pub mod Built
pub mod EditNames
pub mod EntrantRows
pub mod Names
pub mod Passes
pub mod Reads
pub mod Taking
