pub mod Next
pub mod Made
pub mod Steps
pub mod Chased
pub mod ChasedLaws
