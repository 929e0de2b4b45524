use Rattle.std.proofs.Common.{sym, subst, ◌∙◌}
use Rattle.std.proofs.lemmas.Option.{same_Some}
use Rattle.esto_query.specs.Indexes.{AreCandidates}
use Rattle.esto_query.proofs.left.wide_choice_of.Goals as goal

pub returns : goal.returns
returns c known = record {
  within = c.requires;
  serves = λ atom at. subst (λ it. AreCandidates c.args.facts.now it known c.all_places-found.result.now)
      (same_Some _ _ (sym c.item.ensures ∙ at)) (c.all_places-found.ensures known);
}
