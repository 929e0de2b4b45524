use Rattle.std.proofs.Common.{sym, subst, inr, ◌∙◌}
use Rattle.std.proofs.lemmas.Bool.{false≢true}
use Rattle.esto_semantics.specs.Facts.{Mentions}
use Rattle.esto_query.proofs.body.missing_variable.Goals as goal

pub returns-then-mentions : goal.returns-then-mentions
returns-then-mentions c = inr (c.mentions.ensures.0 c.if-mentions.true)

pub returns-else-mentions : goal.returns-else-mentions
returns-else-mentions c = (
  c.in-Plain.is,
  λ mentioned. false≢true (sym c.if-mentions.false ∙ c.mentions.ensures.1 (subst (Mentions c.args.atoms.now) (sym c.in-Plain.is) mentioned)),
)
