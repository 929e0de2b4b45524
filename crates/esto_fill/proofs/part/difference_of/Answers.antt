use Rattle.std.proofs.Common.{refl}
use Rattle.esto_views.specs.Fragments.{views_of}
use Rattle.esto_fill.proofs.DifferenceLemmas.{are_rules}
use Rattle.esto_fill.proofs.TrialLemmas.{rule_broken}
use Rattle.esto_fill.proofs.part.difference_of.Goals as goal

pub returns : goal.returns
returns c = λ laws facts some places enough tried.
    let rules = c.args.catalogue.now.rules in (
      c.in_ok-own.own,
      c.in_ok-cells.cells,
      refl,
      rule_broken c.databases_stand_for_facts.ensures.rules rules laws (views_of c.args.catalogue.now.fragments) facts some enough
          (are_rules c.rules_are_sound.ensures.rules rules) c.least_active_matches_are_least.ensures c.args.number c.in_ok-own.own c.item.result.now
          c.args.valuation.now places c.in_ok-cells.cells c.in_ok-own.ensures c.item.ensures tried c.in_ok-cells.ensures,
    )
