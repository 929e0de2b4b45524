use Rattle.std.proofs.Common.{[], get_or, refl}
use Rattle.std.proofs.lemmas.Option.{slice_get-get_or}
use Rattle.std.proofs.lemmas.Result.{on_ok_weaker}
use Rattle.esto_steps.proofs.IndexLemmas.{finds_more, key_told}
use Rattle.esto_steps.proofs.index.index_row.Goals as goal

pub returns : goal.returns
returns c =
    let row = get_or c.args.rows.now.rows c.args.at [] in
    on_ok_weaker c.add.result
    (finds_more c.args.columns.now c.args.rows.now.rows c.args.at row row c.name_codes.new.codes
    c.items.result.now c.args.index.now c.add.new.self c.requires.there (slice_get-get_or c.args.rows.now.rows c.args.at [] c.requires.there)
    refl (key_told row c.args.columns.now c.name_codes.new.codes c.in_ok-name_codes.field-0 c.in_ok-name_codes.ensures)
    c.items.ensures c.requires.own)
    c.add.ensures.ok
