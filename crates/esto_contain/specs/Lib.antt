pub mod Ends
pub mod Contained
pub mod ContainedLaws
pub mod Numbered
pub mod Minimised
pub mod MinimisedLaws
