use Rattle.std.proofs.Common.{[], ◌∷◌, ◌++◌, map, ap, ◌∙◌}
use Rattle.esto_constraint.proofs.EncodingLemmas.{made_all, made_more}
use Rattle.esto_query.specs.Making.{query_of}
use Rattle.esto_query.specs.declared.query.Query.{Query}
use Rattle.esto_fill.specs.declared.wanted.Wanted.TheVariants.{Asked}
use Rattle.esto_fill.proofs.wanted.wanted_by_queries.Goals as goal

pub queries-preserved : goal.queries-preserved
queries-preserved c =
    made_more (λ (query : Query). (query_of query).body) c.args.queries.now c.queries.query-index c.queries.bodies
    (map (λ (query : Query). (query_of query).body) c.args.queries.now) c.queries.invariant c.query-item.result c.queries-test.true _
    (c.in_ok-add_body.ensures ∙ ap (λ it. c.queries.bodies ++ it ∷ []) (ap (λ (query : Query). (query_of query).body) c.query-item.is))

pub returns : goal.returns
returns c = ap Asked
    (made_all (λ (query : Query). (query_of query).body) c.args.queries.now c.queries.query-index c.queries.bodies
    (map (λ (query : Query). (query_of query).body) c.args.queries.now) c.queries.invariant c.queries-test.false)
