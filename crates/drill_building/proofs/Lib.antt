pub mod ArcLemmas
pub mod Floors
pub mod NodeLemmas
pub mod Storeys
pub mod Validity
pub mod WaysOut
