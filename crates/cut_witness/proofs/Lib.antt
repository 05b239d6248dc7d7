pub mod CrossingLemmas
pub mod ValueLemmas
pub mod WalkLemmas
pub mod Spans
pub mod Nets
pub mod AllCuts
