pub mod Instances
pub mod Fresh
pub mod Receiving
