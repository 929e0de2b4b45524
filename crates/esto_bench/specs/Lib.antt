pub mod Case
pub mod Made
pub mod Summary
