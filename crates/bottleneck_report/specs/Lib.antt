pub use Rattle.evac_law.specs.Building
pub use Rattle.evac_law.specs.Certificates
pub use Rattle.evac_law.specs.Cuts
pub use Rattle.evac_law.specs.LabelTable
pub mod Crossings
pub mod Covers
