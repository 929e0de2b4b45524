use Rattle.std.proofs.Common.{◌≡◌, List, length, sym, subst}
use Rattle.esto_term.specs.declared.term.Term.{Term}
use Rattle.esto_condchase.proofs.FoundLemmas.{next_level}
use Rattle.esto_term.proofs.ResultLemmas.{if_ok_both}
use Rattle.esto_condchase.proofs.ways.match_next.Goals as goal

pub kept_of-requires-clause-lengths : goal.kept_of-requires-clause-lengths
kept_of-requires-clause-lengths c way inside = subst (λ (it : List Term). length it ≡ length way.to) (sym c.items.ensures) (c.requires.lengths way inside)

pub returns-clause-next : goal.returns-clause-next
returns-clause-next c = if_ok_both c.kept_of.result
    (λ ways come goes. next_level c.args.known.now c.args.since c.args.from.now c.items.result.now c.args.atom.now c.args.live.now c.args.sides.now
    _ _ c.items-2.result.now c.args.given.now _ c.items.ensures c.items-2.ensures c.in_ok-sides.ensures.met c.in_ok-sides.ensures.tells come c.requires.lengths
    goes) c.kept_of.ensures.come c.kept_of.ensures.goes
