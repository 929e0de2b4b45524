pub mod Printing
pub mod Searching
pub mod Chains
pub mod Marking
pub mod Placing
pub mod Reasons
pub mod Writing
