pub mod CountLemmas
pub mod OrderedMoves
pub mod LawLemmas
pub mod HoldLemmas
