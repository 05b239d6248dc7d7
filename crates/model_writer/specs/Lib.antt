pub mod Laws
pub mod ModelText
