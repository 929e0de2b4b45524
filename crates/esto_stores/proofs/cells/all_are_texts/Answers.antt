use Rattle.std.proofs.Common.{◌∙◌, ◌<◌, sym, arith, length}
use Rattle.csv.specs.Records.{fields_of}
use Rattle.esto_stores.proofs.RowLemmas.{texts_go, texts_stop}
use Rattle.esto_stores.proofs.cells.all_are_texts.Goals as goal

pub returns-then-not-is_text : goal.returns-then-not-is_text
returns-then-not-is_text c =
    let within : c.cells.place < length (fields_of c.args.cells.now) = omega arith in
    sym (c.cells.invariant ∙ texts_stop _ _ within (cc))

pub cells-preserved : goal.cells-preserved
cells-preserved c =
    let within : c.cells.place < length (fields_of c.args.cells.now) = omega arith in
    c.cells.invariant ∙ texts_go _ _ within (cc)
