pub mod Left
pub mod Cored
pub mod CoredLaws
