pub use Rattle.evac_law.specs.Building
pub use Rattle.building_table.specs.Names
