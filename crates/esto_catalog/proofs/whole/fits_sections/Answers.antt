use Rattle.esto_course.proofs.Steps.{first_stops, then_stops, then_goes}
use Rattle.esto_catalog.proofs.RowLemmas.{row_exit, then_walks}
use Rattle.esto_catalog.specs.Whole.{fits_sections}
use Rattle.esto_catalog.proofs.whole.fits_sections.Goals as goal

pub returns-in_err-fits_section : goal.returns-in_err-fits_section
returns-in_err-fits_section c =
    row_exit (fits_sections c.args.document.now) _ _ c.from_residual.ensures.1 (first_stops _ _ (first_stops _ _ c.in_err-fits_section.ensures))

pub returns-in_err-fits_section-2 : goal.returns-in_err-fits_section-2
returns-in_err-fits_section-2 c =
    row_exit (fits_sections c.args.document.now) _ _ c.from_residual-in_err-fits_section-2.ensures.1
    (first_stops _ _ (then_stops _ _ _ c.in_ok-fits_section.ensures c.in_err-fits_section-2.ensures))

pub returns : goal.returns
returns c =
    then_walks _ _ _ _ (then_goes _ _ _ _ c.in_ok-fits_section.ensures c.in_ok-fits_section-2.ensures) c.fits_section-3.ensures
