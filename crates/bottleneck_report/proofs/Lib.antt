pub mod CoverLemmas
pub mod ItemLemmas
