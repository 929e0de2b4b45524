use Rattle.std.proofs.Common.{sym, ◌∙◌}
use Rattle.std.proofs.lemmas.Bool.{false≢true}
use Rattle.esto_steps.proofs.GatherLemmas.{all_named, none_named}
use Rattle.esto_steps.proofs.gather.name_all.Goals as goal

pub returns-clause-all : goal.returns-clause-all
returns-clause-all c told = all_named c.args.sources.now c.args.so_far.now c.args.rows.now c.arity.result c.arity-2.result
    c.arity.ensures.value c.arity-2.ensures.value c.arity.ensures.fits c.arity-2.ensures.fits (c.are_within.ensures.0 told)

pub returns-clause-none : goal.returns-clause-none
returns-clause-none c told = none_named c.args.sources.now c.args.so_far.now c.args.rows.now c.arity.result c.arity-2.result
    c.arity.ensures.value c.arity-2.ensures.value c.arity.ensures.fits c.arity-2.ensures.fits
    (λ early. false≢true (sym told ∙ c.are_within.ensures.1 early))
