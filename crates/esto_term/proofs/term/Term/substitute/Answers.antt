use Rattle.std.proofs.Common.{sym, ◌∙◌}
use Rattle.std.proofs.lemmas.Bool.{false≢true}
use Rattle.esto_term.proofs.ReplaceLemmas.{replaced-other, replaced-same}
use Rattle.esto_term.proofs.term.Term.substitute.Goals as goal

pub returns-then-equal : goal.returns-then-equal
returns-then-equal c = rw (replaced-same c.args.from.now c.args.to.now c.args.self.now (c.equal.ensures.0 c.if-equal.true)) c.copy.ensures

pub returns-else-equal : goal.returns-else-equal
returns-else-equal c =
    rw (replaced-other c.args.from.now c.args.to.now c.args.self.now (λ same. false≢true (sym c.if-equal.false ∙ c.equal.ensures.1 same)))
    c.copy-else-equal.ensures
