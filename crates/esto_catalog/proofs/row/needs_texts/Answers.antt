use Rattle.std.proofs.Common.{refl}
use Rattle.esto_course.proofs.Steps.{gives_goes}
use Rattle.esto_catalog.proofs.RowLemmas.{refuses_stops}
use Rattle.esto_catalog.proofs.row.needs_texts.Goals as goal

pub returns-in-None-clause-error : goal.returns-in-None-clause-error
returns-in-None-clause-error c = rw c.in-None.ensures (refuses_stops _ _ _ c.fault.ensures)

pub returns-in-Some-Texts-clause-goes : goal.returns-in-Some-Texts-clause-goes
returns-in-Some-Texts-clause-goes c = rw (c.in-Some-Texts.ensures, c.in-Some-Texts.field-0-is) (gives_goes _ _ _ refl)
