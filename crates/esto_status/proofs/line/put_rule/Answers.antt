use Rattle.std.proofs.Common.{◌++◌, codes}
use Rattle.std.specs.Fmt.{decimal}
use Rattle.csv.specs.Writing.{default_writer, row_text}
use Rattle.esto_term.proofs.ListLemmas.{two_more}
use Rattle.esto_status.proofs.LineLemmas.{put_both}
use Rattle.esto_status.proofs.line.put_rule.Goals as goal

pub returns : goal.returns
returns c =
    let number = decimal c.args.number in
    let cells = row_text default_writer c.args.cells.now in
    put_both _ _ _ (codes "constraint ") ((number ++ codes " ") ++ cells) c.put_record.result c.in_ok-append.ensures.ok
    (put_both _ _ _ (number ++ codes " ") cells c.put_record.result (two_more _ _ _ number (codes " ") c.in_ok-put_number.ensures c.in_ok-append-2.ensures.ok)
    c.put_record.ensures)
