use Rattle.std.proofs.Common.{Contains, refl, subst, sym, ◌∙◌, inl, inr}
use Rattle.std.proofs.lemmas.Bool.{false≢true}
use Rattle.esto_term.specs.Sets.{Has}
use Rattle.esto_backchase.proofs.SafetyLemmas.{bound-here, bound-from}
use Rattle.esto_backchase.proofs.safety.is_fixed.Goals.{else-has-via-then-has+else-has_term, else-has-via-else-has}
use Rattle.esto_backchase.proofs.safety.is_fixed.Goals as goal
use Rattle.esto_term.proofs.ListLemmas.{holds_all, holds_more}

pub returns-then-has_term : goal.returns-then-has_term
returns-then-has_term c = (
  λ _. bound-here c.args.atoms.now c.args.set.now c.args.term.now c.atoms.number c.index-atoms-number.result c.atoms-test.true c.index-atoms-number.is
      (c.has.ensures.0 c.if-has.true) (subst (λ terms. Contains terms c.args.term.now) c.items.ensures (c.has_term.ensures.0 c.if-has_term.true)),
  λ _. refl,
)

pub atoms-preserved : goal.atoms-preserved
atoms-preserved c =
    holds_more (λ number atom. Has c.args.set.now number → Contains atom.terms c.args.term.now → ⊥) c.args.atoms.now c.atoms.number c.index-atoms-number.result
    c.atoms-test.true c.index-atoms-number.is c.atoms.invariant
    (λ has inside. elim c.else-has.branch [
      | else-has-via-then-has+else-has_term w ↦ false≢true
          (sym w.if-has_term.false ∙ w.has_term.ensures.1 (subst (λ terms. Contains terms c.args.term.now) (sym w.items.ensures) inside))
      | else-has-via-else-has w ↦ false≢true (sym w.if-has.false ∙ c.has.ensures.1 has)
    ])

pub returns : goal.returns
returns c = (
  λ never. absurd (false≢true never),
  λ bound. elim bound [
    | inl constant ↦ absurd (false≢true (sym c.if-is_constant.false ∙ c.is_constant.ensures.1 constant))
    | inr found ↦
        let atom = bound-from c.args.atoms.now c.args.set.now c.args.term.now found.0 found.2.0 found.2.1 found.2.2 in
        absurd (holds_all (λ number atom. Has c.args.set.now number → Contains atom.terms c.args.term.now → ⊥) c.args.atoms.now c.atoms.number
        c.atoms-test.false c.atoms.invariant found.0 atom.0 atom.1 found.1 atom.2)
  ],
)
