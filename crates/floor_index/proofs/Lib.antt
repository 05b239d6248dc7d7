pub mod FloorLemmas
