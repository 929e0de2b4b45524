use Rattle.std.proofs.Common.{◌∙◌}
use Rattle.std.proofs.lemmas.Result.{IfOk-from_err}
use Rattle.esto_term.proofs.PlaceLemmas.{item_at}
use Rattle.esto_query.specs.declared.query.Query.{Query}
use Rattle.esto_condchase.specs.Evidence.{MatchesIn}
use Rattle.esto_condchase.proofs.MatchingLemmas.{found_all, found_more, found_none}
use Rattle.esto_condchase.proofs.evidence.matching_products.Goals as goal

pub queries-preserved : goal.queries-preserved
queries-preserved c =
    let query = c.query-item.result in (
      c.add_matching.ensures.count ∙ c.queries.invariant.0,
      found_more (λ (it : Query) set. MatchesIn it c.args.plan.now c.args.entries.now set) c.args.queries.now c.queries.query-index query
          (item_at c.args.queries.now c.queries.query-index query c.queries-test.true c.query-item.is) c.queries.found.sets c.add_matching.new.products.sets
          c.in_ok-add_matching.ensures.covers c.queries.invariant.1,
    )

pub returns-clause-tell : goal.returns-clause-tell
returns-clause-tell c =
    found_all (λ (it : Query) set. MatchesIn it c.args.plan.now c.args.entries.now set) c.args.queries.now c.queries.query-index c.queries-test.false
    c.queries.found.sets c.queries.invariant.1

pub returns-in_err-add_matching : goal.returns-in_err-add_matching
returns-in_err-add_matching c = record { count = IfOk-from_err _ _ c.from_residual.ensures.0; tell = IfOk-from_err _ _ c.from_residual.ensures.0 }

pub queries-init : goal.queries-init
queries-init c = (
  c.new-found.ensures.count ∙ c.len.ensures,
  found_none (λ (it : Query) set. MatchesIn it c.args.plan.now c.args.entries.now set) c.args.queries.now c.new-found.result.sets c.new-found.ensures.empty,
)
