use Rattle.std.proofs.Common.{List, sym, subst}
use Rattle.esto_semantics.specs.Maps.{AreFlat}
use Rattle.esto_semantics.specs.declared.fact.Fact.{Fact}
use Rattle.esto_term.specs.declared.term.Term.{Term}
use Rattle.esto_views.specs.Fragments.{views_of}
use Rattle.esto_fill.specs.Databases.{database_of}
use Rattle.esto_fill.specs.Texts.{JudgesViews}
use Rattle.esto_fill.proofs.ValueLemmas.{flat_kept}
use Rattle.esto_fill.proofs.views.judge_views.Goals as goal

pub judge_each-requires : goal.judge_each-requires
judge_each-requires c = subst AreFlat (sym c.in_ok-facts.ensures) (flat_kept c.args.loaded.now.facts c.args.loaded.now.sound)

pub returns : goal.returns
returns c =
    subst (λ (facts : List (Fact Term)). JudgesViews (views_of c.args.catalogue.now.fragments) (database_of facts) c.judge_each.result) c.in_ok-facts.ensures
    c.judge_each.ensures
