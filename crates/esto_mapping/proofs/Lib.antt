pub mod ColumnLemmas
pub mod LayoutLemmas
pub mod SoundLemmas
