use Rattle.esto_course.proofs.Steps.{first_stops, then_stops, then_goes}
use Rattle.esto_catalog.proofs.RowLemmas.{row_exit}
use Rattle.esto_catalog.proofs.WholeLemmas.{sections_go, sections_stop}
use Rattle.esto_catalog.specs.Whole.{reads_top}
use Rattle.esto_catalog.proofs.whole.read_top.Goals as goal

pub returns-in_err-knows_keys : goal.returns-in_err-knows_keys
returns-in_err-knows_keys c =
    row_exit (reads_top c.args.document.now) _ _ c.from_residual.ensures.1
    (first_stops _ _ (rw (c.top_keys-keys.ensures, c.items-entry.ensures) at c.in_err-knows_keys.ensures))

pub returns-in_err-version : goal.returns-in_err-version
returns-in_err-version c =
    row_exit (reads_top c.args.document.now) _ _ c.from_residual-in_err-version.ensures.1
    (then_stops _ _ _ (rw (c.top_keys-keys.ensures, c.items-entry.ensures) at c.in_ok-knows_keys.ensures)
    (first_stops _ _ (rw c.items-entry.ensures at c.in_err-version.ensures)))

pub returns-in_err-core : goal.returns-in_err-core
returns-in_err-core c =
    row_exit (reads_top c.args.document.now) _ _ c.from_residual-in_err-core.ensures.1
    (then_stops _ _ _ (rw (c.top_keys-keys.ensures, c.items-entry.ensures) at c.in_ok-knows_keys.ensures)
    (then_stops _ _ _ (rw c.items-entry.ensures at c.in_ok-version.ensures)
    (first_stops _ _ c.in_err-core.ensures)))

pub returns-in_err-fits_sections : goal.returns-in_err-fits_sections
returns-in_err-fits_sections c =
    row_exit (reads_top c.args.document.now) _ _ c.from_residual-in_err-fits_sections.ensures.1
    (then_stops _ _ _ (rw (c.top_keys-keys.ensures, c.items-entry.ensures) at c.in_ok-knows_keys.ensures)
    (then_stops _ _ _ (rw c.items-entry.ensures at c.in_ok-version.ensures)
    (then_stops _ _ _ c.in_ok-core.ensures
    (sections_stop c.args.document.now c.in_ok-version.version c.in_ok-core.core _ c.in_err-fits_sections.ensures))))

pub returns : goal.returns
returns c =
    then_goes _ _ _ _ (rw (c.top_keys-keys.ensures, c.items-entry.ensures) at c.in_ok-knows_keys.ensures)
    (then_goes _ _ _ _ (rw c.items-entry.ensures at c.in_ok-version.ensures)
    (then_goes _ _ _ _ c.in_ok-core.ensures
    (sections_go c.args.document.now c.in_ok-version.version c.in_ok-core.core _ c.in_ok-fits_sections.ensures)))
