use Rattle.esto_constraint.specs.Constraints.{rules_of}
use Rattle.esto_docs.specs.Stores.{IsFileRow}
use Rattle.esto_fill.proofs.PartLemmas.{first_audited}
use Rattle.esto_views.specs.Fragments.{views_of}
use Rattle.esto_data.specs.Fill.{names_of}
use Rattle.esto_data.proofs.StepLemmas.{differs_stops}
use Rattle.esto_data.proofs.comparing.compare_by_rule.Goals as goal

pub returns-in-Some : goal.returns-in-Some
returns-in-Some c facts some audited enough first contents =
    let catalogue = c.args.catalogue.now in
    let told = rw c.in-Some.is at c.rule_difference.ensures in
    differs_stops catalogue facts contents c.in-Some.difference
    (first_audited catalogue (names_of catalogue.fragments) (views_of catalogue.fragments) facts (IsFileRow catalogue.stores contents) c.in-Some.difference
    (told (rules_of c.args.trial.now.laws) facts some first enough))

pub returns : goal.returns
returns c facts some audited enough first contents = c.rule_anew.ensures facts some c.args.part audited enough first contents
