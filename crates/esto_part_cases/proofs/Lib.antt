mod BodyLemmas
mod LeadingLemmas
mod RefusingLemmas
