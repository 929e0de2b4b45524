pub mod formers
pub mod TextFaults
pub mod Kinds
pub mod Nesting
pub mod Order
pub mod Finite
pub mod Sets
pub mod SetLaws
