use Rattle.std.proofs.Common.{Contains, sym, ◌∙◌, refl, arith, below_more}
use Rattle.std.proofs.lemmas.Bool.{false≢true}
use Rattle.esto_term.specs.Sets.{Has}
use Rattle.esto_term.proofs.SetLemmas.{Has-within}
use Rattle.esto_access.proofs.atoms.names_all.Goals.{else-has-via-then-has+else-not-is_named, else-has-via-else-has}
use Rattle.esto_access.proofs.atoms.names_all.Goals as goal

pub returns-then-not-is_named : goal.returns-then-not-is_named
returns-then-not-is_named c = (
  λ e. absurd (false≢true e),
  λ all. absurd (false≢true (sym c.if-not-is_named.true ∙ c.is_named.ensures.1 (all c.numbers.number (c.has.ensures.0 c.if-has.true)))),
)

pub numbers-preserved : goal.numbers-preserved
numbers-preserved c =
    below_more (λ number. Has c.args.set.now number → Contains c.args.numbers.now number) c.numbers.number c.numbers.invariant
    (λ has. elim c.else-has.branch [
      | else-has-via-then-has+else-not-is_named w ↦ w.is_named.ensures.0 w.if-not-is_named.false
      | else-has-via-else-has w ↦ absurd (false≢true (sym w.if-has.false ∙ c.has.ensures.1 has))
    ])

pub returns : goal.returns
returns c = (
  λ _ number has.
      let below = Has-within c.args.set.now number has in
      c.numbers.invariant number (omega (arith, below, c.numbers-test.false, c.count-number-end.ensures)) has,
  λ _. refl,
)
