use Rattle.std.proofs.Common.{◌+◌, take, sym, subst}
use Rattle.std.specs.List.{AllZip}
use Rattle.esto_rewriting.specs.Members.{IsMemberOf}
use Rattle.esto_rewriting.proofs.ZipLemmas.{zip_next}
use Rattle.esto_rewriting.proofs.members.members_of.Goals as goal

pub queries-preserved : goal.queries-preserved
queries-preserved c =
    let catalogue = c.args.catalogue.now in
    let queries = c.args.queries.now in
    subst (AllZip (IsMemberOf catalogue queries) (take (c.queries.query-index + 1) queries)) (sym c.in_ok-push.ensures.ok)
    (zip_next (IsMemberOf catalogue queries) queries c.queries.members c.queries.query-index c.query-item.result c.in_ok-member.member c.queries-test.true
    c.query-item.is c.queries.invariant c.in_ok-member.ensures)
