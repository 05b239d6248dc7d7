pub use Rattle.evac_law.specs.Building
pub mod Floors
