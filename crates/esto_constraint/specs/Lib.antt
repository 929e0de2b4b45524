pub mod Soundness
pub mod Constraints
pub mod Making
pub mod Matches
pub mod Tests
pub mod EncodingRules
pub mod Graphs
pub mod Relations
