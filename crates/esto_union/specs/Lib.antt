pub mod Unions
pub mod Laws
