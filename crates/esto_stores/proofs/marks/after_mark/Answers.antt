use Rattle.std.proofs.Common.{◌∙◌, sym}
use Rattle.esto_stores.proofs.TableLemmas.{no_mark, too_short, a_mark}
use Rattle.esto_stores.proofs.marks.after_mark.Goals as goal
use Rattle.esto_stores.proofs.marks.after_mark.Goals.{then-bytes-lt3-via-then-bytes-lt3, then-bytes-lt3-via-else-bytes-lt3+then-not-is_mark}

pub returns-then-bytes-lt3 : goal.returns-then-bytes-lt3
returns-then-bytes-lt3 c = elim c.then-bytes-lt3.branch [
  | then-bytes-lt3-via-then-bytes-lt3 w ↦ too_short _ w.if-bytes-lt3.true
  | then-bytes-lt3-via-else-bytes-lt3+then-not-is_mark w ↦ no_mark _ (sym w.is_mark.ensures ∙ w.if-not-is_mark.true)
]

pub returns : goal.returns
returns c = a_mark _ c.if-bytes-lt3.false (sym c.is_mark.ensures ∙ c.if-not-is_mark.false)
