pub use Rattle.residual_net.specs.NetLaws
pub use Rattle.residual_net.specs.Start
pub mod Opened
pub mod Refit
pub mod Repairing
pub mod Touched
pub mod Repairs
