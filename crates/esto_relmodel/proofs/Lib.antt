pub mod OnceLemmas
pub mod SeenLemmas
