use Rattle.std.proofs.Common.{refl, sym, ◌∙◌}
use Rattle.std.proofs.lemmas.Bool.{false≢true}
use Rattle.std.proofs.lemmas.Option.{slice_get_read}
use Rattle.esto_term.specs.declared.term.Term.{Term}
use Rattle.esto_term.proofs.ListLemmas.{Contains-nil, each_more, each_seen}
use Rattle.esto_semantics.specs.Facts.{Mentions}
use Rattle.esto_read.proofs.head.first_missing.Goals as goal

pub terms-init : goal.terms-init
terms-init c term inside = absurd (Contains-nil term inside)

pub terms-preserved : goal.terms-preserved
terms-preserved c =
    each_more (λ (term : Term). Mentions c.args.body.now term) _ _ _ c.terms-test.true c.index-head-place.is (c.mentions.ensures.0 c.if-not-mentions.false)
    c.terms.invariant

pub returns-then-not-mentions : goal.returns-then-not-mentions
returns-then-not-mentions c = (
  c.index-head-place.result,
  slice_get_read c.args.head.now _ c.terms.place _ refl c.terms-test.true c.index-head-place.is,
  (λ mentioned. false≢true (sym c.if-not-mentions.true ∙ c.mentions.ensures.1 mentioned)),
  c.terms.invariant,
)

pub returns : goal.returns
returns c = each_seen (λ (term : Term). Mentions c.args.body.now term) c.args.head.now c.terms.place c.terms-test.false c.terms.invariant
