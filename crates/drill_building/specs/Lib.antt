pub use Rattle.evac_law.specs.Building
pub use Rattle.evac_law.specs.Certificates
pub use Rattle.line_io.specs.Writer
pub use Rattle.building_table.specs.Built
pub use Rattle.building_table.specs.Names
pub mod Drill
pub mod Laws
pub mod Summary
