pub mod Ways
pub mod Rounds
pub mod Products
pub mod News
pub mod Evidence
