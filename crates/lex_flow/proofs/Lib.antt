pub mod UnsetLemmas
pub mod SettleLemmas
