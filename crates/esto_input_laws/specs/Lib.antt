pub mod Totality
pub mod GrammarLaws
pub mod ReadingLaws
pub mod FileLaws
pub mod CatalogueLaws
pub mod DatasetLaws
