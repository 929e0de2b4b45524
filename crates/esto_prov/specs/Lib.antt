pub mod Derivations
pub mod Products
pub mod Taking
