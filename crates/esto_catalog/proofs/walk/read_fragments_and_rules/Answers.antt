use Rattle.std.proofs.Common.{refl}
use Rattle.esto_course.proofs.Steps.{first_stops, then_stops, then_goes, gives_goes}
use Rattle.esto_catalog.proofs.RowLemmas.{row_exit}
use Rattle.esto_catalog.specs.Reading.{reads_fragments_and_rules}
use Rattle.esto_catalog.proofs.walk.read_fragments_and_rules.Goals as goal

pub returns-in_err-fragments-clause-both : goal.returns-in_err-fragments-clause-both
returns-in_err-fragments-clause-both c =
    row_exit (reads_fragments_and_rules c.args.sections.now c.args.scope.now.datasets) _ _ c.from_residual.ensures.1
    (first_stops _ _ (rw c.items.ensures at c.in_err-fragments.ensures.fragments))

pub returns-in_err-ranked-clause-both : goal.returns-in_err-ranked-clause-both
returns-in_err-ranked-clause-both c =
    row_exit (reads_fragments_and_rules c.args.sections.now c.args.scope.now.datasets) _ _ c.from_residual-in_err-ranked.ensures.1
    (then_stops _ _ _ (rw c.items.ensures at c.in_ok-fragments.ensures.fragments) (first_stops _ _ c.in_err-ranked.ensures.rules))

pub returns-clause-both : goal.returns-clause-both
returns-clause-both c =
    then_goes _ _ _ _ (rw c.items.ensures at c.in_ok-fragments.ensures.fragments)
    (then_goes _ _ _ _ c.in_ok-ranked.ensures.rules (gives_goes _ _ _ refl))
