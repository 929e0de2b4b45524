pub mod LeafLemmas
pub mod WhyLemmas
pub mod ProductLemmas
pub mod DeriveLemmas
pub mod MeetLemmas
pub mod PutLemmas
