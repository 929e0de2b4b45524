use Rattle.std.proofs.Common.{◌∙◌, ap, map}
use Rattle.esto_exec.specs.Turns.{link_in}
use Rattle.esto_exec.proofs.turns.own_get.Goals as goal

pub returns-clause-done : goal.returns-clause-done
returns-clause-done c = c.in_ok-push_done.ensures.done

pub returns-clause-places : goal.returns-clause-places
returns-clause-places c = c.in_ok-push_done.ensures.places

pub returns-clause-inputs : goal.returns-clause-inputs
returns-clause-inputs c = c.in_ok-inputs.ensures ∙ ap (λ them. map (link_in c.args.places.now them) c.args.get.now.inputs) c.first_of.ensures

pub returns-clause-filters : goal.returns-clause-filters
returns-clause-filters c = c.in_ok-filters.ensures
