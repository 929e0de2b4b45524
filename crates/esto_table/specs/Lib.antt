pub mod Places
pub mod Hashes
pub mod Buckets
pub mod Numbers
pub mod Tables
pub mod Spreads
pub mod Marks
pub mod Rows
