pub mod Searching
pub mod Candidates
pub mod Listing
