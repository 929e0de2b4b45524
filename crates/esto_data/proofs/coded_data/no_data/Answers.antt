use Rattle.std.proofs.Common.{◌∙◌, refl}
use Rattle.esto_data.proofs.CodedLoadLemmas.{none_loaded}
use Rattle.esto_data.proofs.coded_data.no_data.Goals as goal

pub returns-clause-over : goal.returns-clause-over
returns-clause-over c = c.in_ok-facts.ensures.arities ∙ c.items.ensures ∙ c.in_ok-arities.ensures

pub returns-clause-nothing : goal.returns-clause-nothing
returns-clause-nothing c wanted =
    none_loaded c.args.catalogue.now.datasets wanted (record { facts = c.in_ok-facts.facts; next = 0 }) c.in_ok-facts.ensures.facts
    c.in_ok-facts.ensures.ordered refl
