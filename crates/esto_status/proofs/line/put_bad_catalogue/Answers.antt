use Rattle.std.proofs.Common.{◌++◌, codes}
use Rattle.std.specs.Fmt.{decimal}
use Rattle.esto_term.proofs.ListLemmas.{two_more}
use Rattle.esto_status.specs.Line.{catalogue_word, cell_of, section_word, within_text}
use Rattle.esto_status.proofs.LineLemmas.{put_both}
use Rattle.esto_status.proofs.line.put_bad_catalogue.Goals as goal

pub returns : goal.returns
returns c =
    let fault = c.args.fault.now in
    let section =
    catalogue_word fault.kind ++ (codes " " ++ (section_word fault.section ++ (codes " " ++ (decimal fault.number ++ codes " ")))) in
    let cell = cell_of fault.key in
    let within = within_text fault.text in
    let start = codes "BadCatalogue " ++ section in
    put_both _ _ _ (start ++ cell ++ within) (codes "\n") c.append-2.result
    (two_more _ _ _ (start ++ cell) within
    (two_more _ _ _ start cell (two_more _ _ _ (codes "BadCatalogue ") section c.in_ok-append.ensures.ok c.in_ok-put_section.ensures) c.in_ok-put_cell.ensures)
    c.in_ok-put_within.ensures)
    c.append-2.ensures.ok
