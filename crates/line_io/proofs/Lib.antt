pub mod CallLemmas
mod CountLemmas
pub mod GivenLemmas
pub mod HearingLemmas
pub mod LineLemmas
pub mod PassLemmas
pub mod Pieces
pub mod ReaderLemmas
pub mod TextLemmas
pub mod WriterLemmas
