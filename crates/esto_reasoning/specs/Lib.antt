pub mod Texts
pub mod Contains
pub mod Minimise
pub mod Exact
pub mod Laws
