pub mod OrderLemmas
pub mod FreshLemmas
pub mod ReceivingLemmas
