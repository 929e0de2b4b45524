use Rattle.std.proofs.Common.{sym, ◌∙◌}
use Rattle.esto_term.proofs.ListLemmas.{Contains-at}
use Rattle.esto_data.proofs.CodedRowLemmas.{first_one, none_first}
use Rattle.esto_data.proofs.coded_answering.width_of.Goals as goal

pub returns-in-Some : goal.returns-in-Some
returns-in-Some c other inside =
    let query = c.in-Some.query in
    c.requires other query.now inside
    (Contains-at c.args.queries.now 0 query.now (first_one c.args.queries.now c.first.result query c.in-Some.is c.first.ensures.value)) ∙ sym c.len.ensures

pub returns-in-None : goal.returns-in-None
returns-in-None c other inside = absurd (none_first c.args.queries.now other c.in-None.ensures.value inside)
