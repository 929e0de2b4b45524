use Rattle.std.proofs.Common.{◌++◌, Contains, ap, sym, subst, ◌∙◌}
use Rattle.std.proofs.lemmas.Result.{on_ok_weaker}
use Rattle.esto_known.specs.KeptWays.{AreCounted}
use Rattle.esto_condchase.proofs.FoundLemmas.{next_items}
use Rattle.esto_condchase.proofs.ways.go_on.Goals as goal

pub match_next-requires-clause-lengths : goal.match_next-requires-clause-lengths
match_next-requires-clause-lengths c way inside = c.requires.lengths way (subst (λ it. Contains it way) c.items-2.ensures inside)

pub match_next-requires-clause-given : goal.match_next-requires-clause-given
match_next-requires-clause-given c = subst (AreCounted c.args.count) (sym c.items-2.ensures) c.requires.counted

pub returns-clause-next : goal.returns-clause-next
returns-clause-next c = on_ok_weaker c.put_terms.result
    (λ added. next_items c.args.known.now 0 c.args.from.now c.args.atom.now _ c.items.result.now c.args.sides.now
    c.args.ways.now c.items-2.result.now _ (c.items.ensures ∙ c.in_ok-live.ensures) c.items-2.ensures c.in_ok-ways.ensures.next) c.put_terms.ensures

pub returns-clause-counted : goal.returns-clause-counted
returns-clause-counted c = on_ok_weaker c.put_terms.result (λ added. c.in_ok-ways.ensures.counted) c.put_terms.ensures

pub returns-clause-from : goal.returns-clause-from
returns-clause-from c = on_ok_weaker c.put_terms.result (λ added. added ∙ ap (λ it. c.args.from.now ++ it) c.items-3.ensures) c.put_terms.ensures
