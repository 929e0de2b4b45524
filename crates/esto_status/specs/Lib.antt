pub mod Answers
pub mod Asked
pub mod Calm
pub mod Fetch
pub mod Line
pub mod Replies
