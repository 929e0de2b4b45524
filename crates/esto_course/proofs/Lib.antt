pub mod Steps
pub mod Asking
pub mod Alike
pub mod Determined
