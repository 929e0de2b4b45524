use Rattle.esto_chase_laws.proofs.StateLemmas.{made_is_new}
use Rattle.esto_chase_laws.proofs.runs.made_terms_are_new.Goals as goal

pub returns : goal.returns
returns c rules start are_rules is_start trace now next run number m places is body head rule variable =
    made_is_new rules start are_rules is_start.flat_body trace now next run number m places is body head rule variable
