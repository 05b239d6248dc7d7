pub use Rattle.evac_law.specs.Building
pub use Rattle.evac_law.specs.Plans
pub use Rattle.evac_law.specs.Stands
pub mod Layouts
pub mod Tables
