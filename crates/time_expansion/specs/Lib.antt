pub mod Limits
pub mod Expansion
pub mod Index
