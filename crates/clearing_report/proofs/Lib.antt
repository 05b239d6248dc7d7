pub mod TimeLemmas
pub mod Reach
pub mod MomentLemmas
pub mod PeriodLemmas
