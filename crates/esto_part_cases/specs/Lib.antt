pub mod Bodies
pub mod Leading
pub mod Refusing
