pub mod Rounds
pub mod Relations
