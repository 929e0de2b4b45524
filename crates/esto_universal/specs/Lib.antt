pub mod Rows
pub mod Stated
pub mod StatedLaws
pub mod Planned
pub mod PlannedLaws
