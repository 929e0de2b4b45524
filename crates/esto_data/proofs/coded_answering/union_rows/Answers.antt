use Rattle.std.proofs.Common.{sym, ◌∙◌, arith}
use Rattle.esto_term.proofs.ListLemmas.{Contains-read}
use Rattle.esto_data.proofs.CodedRowLemmas.{stays_itself, stays_on, union_ends, union_goes, union_start}
use Rattle.esto_data.proofs.coded_answering.union_rows.Goals as goal

pub queries-init : goal.queries-init
queries-init c = union_start c.args.coded.now c.width_of-width.result c.in_ok-rows.rows c.in_ok-rows.ensures

pub add_answers-requires : goal.add_answers-requires
add_answers-requires c =
    c.queries.invariant.wide
    ∙ sym (c.width_of-width.ensures c.query-item.result
    (Contains-read c.args.queries.now c.queries.query-index c.query-item.result c.queries-test.true c.query-item.is))

pub queries-preserved : goal.queries-preserved
queries-preserved c =
    union_goes c.args.coded.now c.queries.coded c.add_answers.new.coded c.width_of-width.result c.queries.rows c.add_answers.new.rows c.args.queries.now
    c.queries.query-index c.query-item.result c.queries-test.true c.query-item.is c.queries.invariant c.add_answers.ensures.stays
    c.in_ok-add_answers.ensures.arity c.in_ok-add_answers.ensures.rows

pub returns-clause-rows : goal.returns-clause-rows
returns-clause-rows c =
    union_ends c.args.coded.now c.queries.coded c.width_of-width.result c.queries.rows c.args.queries.now c.queries.query-index
    (omega (arith, c.queries-test.false)) c.queries.invariant

pub returns-in_err-rows-clause-stays : goal.returns-in_err-rows-clause-stays
returns-in_err-rows-clause-stays c = stays_itself c.args.coded.now

pub returns-in_err-add_answers-clause-stays : goal.returns-in_err-add_answers-clause-stays
returns-in_err-add_answers-clause-stays c = stays_on _ _ _ c.queries.invariant.stays c.add_answers.ensures.stays

pub returns-clause-stays : goal.returns-clause-stays
returns-clause-stays c = c.queries.invariant.stays
