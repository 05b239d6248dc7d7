pub mod LayoutLemmas
pub mod SizesLemmas
pub mod WrittenLemmas
