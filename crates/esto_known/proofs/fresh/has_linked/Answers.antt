use Rattle.esto_term.proofs.ListLemmas.{Contains-nil, each_more, each_seen}
use Rattle.esto_known.specs.Live.{IsUnlinked}
use Rattle.esto_known.proofs.fresh.has_linked.Goals as goal

pub terms-init : goal.terms-init
terms-init c own inside = absurd (Contains-nil own inside)

pub terms-preserved : goal.terms-preserved
terms-preserved c = each_more (IsUnlinked c.args.known.now c.args.since) c.args.terms.now c.terms.own-index c.own-item.result c.terms-test.true c.own-item.is
    (c.in_ok-is_linked.ensures c.if-branch.false) c.terms.invariant

pub returns : goal.returns
returns c _ = each_seen (IsUnlinked c.args.known.now c.args.since) c.args.terms.now c.terms.own-index c.terms-test.false c.terms.invariant
