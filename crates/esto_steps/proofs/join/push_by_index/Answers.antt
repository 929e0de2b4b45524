use Rattle.std.proofs.Common.{map, refl}
use Rattle.esto_steps.specs.declared.steps.Link.{Link}
use Rattle.esto_steps.specs.declared.steps.Source.TheVariants.{Cell}
use Rattle.esto_steps.proofs.NamedLemmas.{links_name}
use Rattle.esto_steps.proofs.join.push_by_index.Goals as goal

pub push_each_joined-requires-clause-found : goal.push_each_joined-requires-clause-found
push_each_joined-requires-clause-found c = (
  map (λ (link : Link). Cell link.column) c.args.links.now,
  c.requires.own,
  λ cells row among follows. links_name c.args.links.now c.in_ok-sources.sources _ cells row c.in_ok-sources.ensures refl
      (c.requires.early cells row among follows),
)
