pub mod RankLemmas
pub mod DistanceLemmas
pub mod SameLemmas
pub mod EdgeLemmas
pub mod PushLemmas
