use Rattle.std.proofs.Common.{◌⊎◌, inl, inr, Contains}
use Rattle.std.proofs.lemmas.List.{get_or_default}
use Rattle.esto_term.proofs.ListLemmas.{Contains-nil, each_more, each_seen}
use Rattle.esto_known.specs.Live.{IsStale}
use Rattle.esto_known.proofs.fresh.fresh_of.Goals as goal

pub facts-init : goal.facts-init
facts-init c place inside = absurd (Contains-nil place inside)

pub facts-preserved : goal.facts-preserved
facts-preserved c = each_more (λ place. Contains c.put_fresh.new.places place ⊎ IsStale c.args.known.now c.args.since place) c.args.facts.now
    c.facts.place-index _ c.facts-test.true (get_or_default c.args.facts.now c.facts.place-index _ _ c.facts-test.true) c.in_ok-put_fresh.ensures.there
    (λ place inside. elim (c.facts.invariant place inside) [ inl there ↦ inl (c.in_ok-put_fresh.ensures.kept place there) | inr stale ↦ inr stale ])

pub returns : goal.returns
returns c = each_seen (λ place. Contains c.facts.places place ⊎ IsStale c.args.known.now c.args.since place) c.args.facts.now c.facts.place-index
    c.facts-test.false c.facts.invariant
