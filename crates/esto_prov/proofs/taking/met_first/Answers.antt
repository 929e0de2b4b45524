use Rattle.std.proofs.Common.{sym, ◌∙◌}
use Rattle.std.proofs.lemmas.Bool.{false≢true}
use Rattle.esto_prov.proofs.MeetLemmas.{met_behind, met_within}
use Rattle.esto_prov.proofs.taking.met_first.Goals as goal

pub returns-then-has_term : goal.returns-then-has_term
returns-then-has_term c = c.taken_term.ensures
    ∙ met_within c.args.from.now c.args.to.now c.args.terms.now c.args.owns.now c.requires c.args.term.now (c.has_term.ensures.0 c.if-has_term.true)

pub returns : goal.returns
returns c = c.taken_term-2.ensures
    ∙ met_behind c.args.from.now c.args.to.now c.args.terms.now c.args.owns.now c.requires c.args.term.now
    (λ inside. false≢true (sym c.if-has_term.false ∙ c.has_term.ensures.1 inside))
