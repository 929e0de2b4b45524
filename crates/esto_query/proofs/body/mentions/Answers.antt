use Rattle.std.proofs.Common.{Contains, sym, ◌∙◌}
use Rattle.std.proofs.lemmas.Bool.{false≢true}
use Rattle.esto_semantics.specs.declared.fact.Fact.{Fact}
use Rattle.esto_term.specs.declared.term.Term.{Term}
use Rattle.esto_term.proofs.ListLemmas.{each_more, each_seen}
use Rattle.esto_query.proofs.body.mentions.Goals as goal

pub atoms-preserved : goal.atoms-preserved
atoms-preserved c =
    each_more (λ (atom : Fact Term). ¬ Contains atom.terms c.args.term.now) _ _ _ c.atoms-test.true c.atom-item.is
    (λ h. false≢true (sym c.if-has_term.false ∙ c.has_term.ensures.1 (rw c.items.ensures h))) c.atoms.invariant

pub returns : goal.returns
returns c = (
  λ e. absurd (false≢true e),
  λ (atom, k, h). absurd (each_seen
      (λ (atom : Fact Term). ¬ Contains atom.terms c.args.term.now) _ c.atoms.atom-index c.atoms-test.false c.atoms.invariant atom k h),
)
