use Rattle.std.proofs.Common.{[]}
use Rattle.esto_constraint.proofs.RankLemmas.{rules-AreRules}
use Rattle.esto_constraint.specs.Constraints.{rules_of}
use Rattle.esto_query.specs.Making.{query_of}
use Rattle.esto_cert.specs.Judging.{case_for}
use Rattle.esto_cert.proofs.ShowLemmas.{nothing, walked}
use Rattle.esto_cert.proofs.laws.accepted_certificates_show.Goals as goal

pub returns : goal.returns
returns c plan fragments set rules query bytes over (expanded, exact, expands, flat, decides) =
    let are_rules = rules-AreRules rules c.rules_are_sound.ensures.rules in
    let case = case_for plan set rules query expanded in
    let (entries, are, matched) = walked case _ 1 [] [] (nothing case) decides in
    c.matched_sets_are_contained.ensures (rules_of rules) fragments plan expanded entries set (query_of query) are_rules (c.plans_are_sound.ensures plan)
    expands
    are.derived (c.derived_entries_are_sound.ensures.sound expanded (rules_of rules) entries are_rules flat are.derived set) over
    (c.queries_are_sound.ensures query).query matched
