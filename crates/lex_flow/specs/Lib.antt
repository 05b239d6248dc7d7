pub use Rattle.terminal_augment.specs.Settled
pub mod Settling
pub mod Outcomes
