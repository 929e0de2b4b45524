use Rattle.std.proofs.lemmas.Option.{slice_get_within}
use Rattle.esto_semantics.specs.Spreads.{substituted}
use Rattle.esto_views.proofs.ExpandedLemmas.{fragment_is}
use Rattle.esto_views.proofs.expansion.expand_atom.Goals as goal

pub item-fragment-requires : goal.item-fragment-requires
item-fragment-requires c = slice_get_within c.args.fragments.now c.args.atom.now.fragment c.requires.0 c.requires.1

pub spread_of-requires-clause-fragment : goal.spread_of-requires-clause-fragment
spread_of-requires-clause-fragment c =
    (fragment_is c.args.fragments.now c.args.atom.now c.item-fragment.result.now c.requires c.item-fragment.ensures).0

pub spread_of-requires-clause-columns : goal.spread_of-requires-clause-columns
spread_of-requires-clause-columns c =
    (fragment_is c.args.fragments.now c.args.atom.now c.item-fragment.result.now c.requires c.item-fragment.ensures).1

pub returns : goal.returns
returns c = (
  c.item-fragment.result.now,
  c.item-fragment.ensures,
  substituted c.in_ok-spread.spread.from c.in_ok-spread.spread.to,
  c.in_ok-spread.ensures.spread,
  rw c.items.ensures at c.in_ok-push_facts.ensures,
)
