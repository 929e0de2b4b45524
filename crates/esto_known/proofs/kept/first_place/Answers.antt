use Rattle.std.proofs.Common.{sym, refl, ◌≡◌, ◌∙◌}
use Rattle.std.proofs.lemmas.Bool.{false≢true}
use Rattle.esto_term.specs.declared.term.Term.{Term}
use Rattle.esto_term.proofs.ListLemmas.{none_holds, holds_more, each_none}
use Rattle.esto_known.proofs.TellLemmas.{first_here}
use Rattle.esto_known.proofs.kept.first_place.Goals as goal

pub places-init : goal.places-init
places-init c = each_none (λ _ (other : Term). c.args.term.now ≡ other → ⊥) c.args.from.now

pub places-preserved : goal.places-preserved
places-preserved c = holds_more (λ _ (other : Term). c.args.term.now ≡ other → ⊥) c.args.from.now c.places.place c.index-from-place.result c.places-test.true
    c.index-from-place.is c.places.invariant (λ is. false≢true (sym c.if-equal.false ∙ c.equal.ensures.1 is))

pub returns-then-equal : goal.returns-then-equal
returns-then-equal c = first_here c.args.from.now c.args.term.now c.index-from-place.result c.places.place c.places-test.true c.index-from-place.is
    (c.equal.ensures.0 c.if-equal.true) c.places.invariant

pub returns : goal.returns
returns c inside = none_holds (λ (other : Term). c.args.term.now ≡ other) c.args.from.now c.args.from.now refl c.places.place c.places-test.false
    c.places.invariant c.args.term.now inside refl
