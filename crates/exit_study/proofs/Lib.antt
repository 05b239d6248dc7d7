pub mod RateLemmas
pub mod Trying
