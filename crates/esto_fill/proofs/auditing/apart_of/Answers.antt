use Rattle.std.proofs.lemmas.Result.{IfOk-weaker}
use Rattle.esto_query.specs.Making.{query_of}
use Rattle.esto_semantics.specs.Queries.{IsAnswer}
use Rattle.esto_fill.specs.Databases.{database_of}
use Rattle.esto_fill.proofs.DifferenceLemmas.{told_judges}
use Rattle.esto_fill.proofs.auditing.apart_of.Goals as goal

pub returns : goal.returns
returns c =
    IfOk-weaker c.apart_rows.result _ _
    (told_judges (IsAnswer (query_of c.args.fragment.now.view) (database_of c.args.facts.now)) c.in_ok-own.own c.in_ok-held.held c.args.rows.now
    c.in_ok-own.ensures.exact c.in_ok-held.ensures.rows c.args.fragment.now.name) (rw (c.items.ensures, c.items-2.ensures) at c.apart_rows.ensures)
