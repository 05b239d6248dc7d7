pub mod Labelled
pub mod Looks
pub mod Targets
