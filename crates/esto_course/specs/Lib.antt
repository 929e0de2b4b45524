pub mod Course
pub mod Agreement
