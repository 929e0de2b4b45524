use Rattle.std.proofs.Common.{inr}
use Rattle.std.proofs.lemmas.Result.{err_from_is_err_and}
use Rattle.esto_text.specs.View.{entries_of}
use Rattle.esto_read.proofs.layout.said_layout.Goals as goal

pub first_stranger-requires : goal.first_stranger-requires
first_stranger-requires c = c.requires.stand

pub entries-requires-clause-utf8 : goal.entries-requires-clause-utf8
entries-requires-clause-utf8 c = c.requires.text.1.0

pub entries-requires-clause-stand : goal.entries-requires-clause-stand
entries-requires-clause-stand c = c.requires.stand

pub returns-in_err-names-clause-error : goal.returns-in_err-names-clause-error
returns-in_err-names-clause-error c =
    let p = err_from_is_err_and c.from_residual.result c.from_residual.ensures.1 in
    rw (p.1, p.2) c.requires.text.1.0

pub returns-in_err-entries-clause-error : goal.returns-in_err-entries-clause-error
returns-in_err-entries-clause-error c =
    let p = err_from_is_err_and c.from_residual-in_err-entries.result c.from_residual-in_err-entries.ensures.1 in
    rw (p.1, p.2) c.requires.text.1.0

pub returns-in-Some-clause-error : goal.returns-in-Some-clause-error
returns-in-Some-clause-error c = inr (entries_of c.args.group.now, c.requires.text, rw c.items.ensures at c.in-Some.ensures)

pub returns-clause-reading : goal.returns-clause-reading
returns-clause-reading c = (
  entries_of c.args.group.now,
  c.entries.new.names,
  c.requires.text,
  rw c.items.ensures at c.in_default.ensures,
  rw c.in_ok-names.ensures at c.in_ok-entries.ensures,
)
