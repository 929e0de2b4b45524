pub mod ShownLemmas
pub mod CourseLemmas
pub mod AlikeLemmas
pub mod ExactLemmas
