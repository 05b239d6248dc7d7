pub mod Parts
pub mod CutItems
pub mod Given
pub mod Clears
pub mod Periods
pub mod CardParts
