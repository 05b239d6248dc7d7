pub use Rattle.evac_law.specs.Building
pub use Rattle.evac_law.specs.Plans
pub use Rattle.evac_law.specs.Stands
pub use Rattle.floor_index.specs.Floors
pub mod Clearing
pub mod Walks
pub mod Distances
pub mod Laws
