pub mod Saved
pub mod Thrifty
pub mod Ring
pub mod Standing
pub mod RepairLemmas
pub mod Going
