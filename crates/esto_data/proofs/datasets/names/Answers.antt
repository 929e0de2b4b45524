use Rattle.std.proofs.Common.{refl, sym, ◌∙◌}
use Rattle.std.proofs.lemmas.Bool.{false≢true}
use Rattle.esto_data.specs.Datasets.{HasRelation}
use Rattle.esto_semantics.specs.declared.fact.Fact.{Fact}
use Rattle.esto_term.proofs.ListLemmas.{holds_more_in, none_holds}
use Rattle.esto_term.specs.declared.term.Term.{Term}
use Rattle.esto_data.proofs.datasets.names.Goals as goal

pub returns : goal.returns
returns c = (
  (λ wrong. absurd (false≢true wrong)),
  (λ (atom, inside, has). absurd (none_holds (λ (it : Fact Term). HasRelation c.args.dataset.now it.relation) c.args.body.now c.args.body.now refl
      c.atoms.atom-index c.atoms-test.false c.atoms.invariant atom inside has)),
)

pub atoms-preserved : goal.atoms-preserved
atoms-preserved c =
    holds_more_in (λ _ atom. HasRelation c.args.dataset.now atom.relation → ⊥) c.args.body.now c.args.body.now refl _ _ c.atoms-test.true c.atom-item.is
    c.atoms.invariant (λ has. false≢true (sym c.if-has_relation.false ∙ c.has_relation.ensures.1 has))
