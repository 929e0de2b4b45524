use Rattle.std.proofs.Common.{refl}
use Rattle.esto_data.proofs.CodedRowLemmas.{rows_found, stays_by}
use Rattle.esto_data.proofs.coded_answering.rows_of.Goals as goal

pub answers-requires : goal.answers-requires
answers-requires c = rw (c.items.ensures, c.items-2.ensures) (c.queries_are_sound.ensures c.args.query.now).query.safe

pub returns-clause-rows : goal.returns-clause-rows
returns-clause-rows c =
    rows_found c.answers.result c.args.coded.now c.answers.new.self c.args.query.now c.items.result.now c.items-2.result.now c.items.ensures c.items-2.ensures
    (c.queries_are_sound.ensures c.args.query.now).query c.answers.ensures.facts c.answers.ensures.rows c.answers.ensures.texts c.answers.ensures.constants

pub returns-clause-stays : goal.returns-clause-stays
returns-clause-stays c = stays_by c.args.coded.now _ c.answers.ensures.facts c.answers.ensures.ordered c.answers.ensures.grown refl
