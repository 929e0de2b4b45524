pub mod Items
pub mod Text
