pub mod Same
pub mod Lent
pub mod Leads
pub mod Told
pub mod Wanted
