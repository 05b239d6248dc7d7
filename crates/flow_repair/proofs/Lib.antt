pub mod Numbers
pub mod Cancelling
pub mod Refitting
pub mod Between
pub mod Repairing
pub mod Arcs
pub mod Edited
pub mod Whole
