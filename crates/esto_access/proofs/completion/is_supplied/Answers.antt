use Rattle.std.proofs.Common.{◌∙◌, subst, sym}
use Rattle.std.proofs.lemmas.Bool.{false≢true}
use Rattle.esto_term.specs.Sets.{Covers}
use Rattle.esto_access.proofs.NeedLemmas.{sets_there}
use Rattle.esto_access.proofs.completion.is_supplied.Goals as goal

pub returns-then-not-has : goal.returns-then-not-has
returns-then-not-has c = λ _ has. absurd (false≢true (sym c.if-not-has.true ∙ c.has.ensures.1 has))

pub returns : goal.returns
returns c = λ holds _. subst (λ its. Covers its c.args.low.now) (sym (sets_there c.args.supplies.now c.args.number c.item.result.now c.item.ensures))
    (c.covered.ensures.0 holds)
