pub mod Lines
pub mod Reading
pub mod Linking
pub mod Certificates
pub mod Matching
pub mod Judging
pub mod Showing
pub mod Complete
