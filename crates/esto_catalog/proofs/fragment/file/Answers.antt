use Rattle.std.proofs.Common.{subst, sym}
use Rattle.esto_catalog.proofs.RowLemmas.{row_exit}
use Rattle.esto_catalog.specs.Fragments.{file_row}
use Rattle.esto_catalog.proofs.fragment.file.Goals as goal

pub returns-in_err-file : goal.returns-in_err-file
returns-in_err-file c =
    row_exit (file_row c.args.place c.args.entry.now) _ _ c.from_residual.ensures.1 c.in_err-file.ensures.error

pub returns : goal.returns
returns c = subst (file_row c.args.place c.args.entry.now).goes (sym c.in_ok-copy.ensures) c.in_ok-file.ensures.goes
