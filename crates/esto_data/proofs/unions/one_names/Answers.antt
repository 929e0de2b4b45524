use Rattle.std.proofs.Common.{Contains, refl, sym, subst, ◌∙◌}
use Rattle.std.proofs.lemmas.Bool.{false≢true}
use Rattle.std.proofs.lemmas.List.Elements.{Contains-get_or}
use Rattle.esto_query.specs.Making.{query_of}
use Rattle.esto_query.specs.declared.query.Query.{Query}
use Rattle.esto_semantics.specs.Queries.{ConjunctiveQuery}
use Rattle.esto_term.proofs.ListLemmas.{Contains-map, Contains-map_from, holds_more_in, none_holds}
use Rattle.esto_data.specs.Datasets.{Names}
use Rattle.esto_data.proofs.unions.one_names.Goals as goal

pub returns-then-names : goal.returns-then-names
returns-then-names c =
    let queries = c.args.queries.now in
    let query = c.query-item.result in (
      (λ yes. (
        query_of query,
        Contains-map query_of queries query
            (subst (Contains queries) (sym c.query-item.is) (Contains-get_or queries c.queries.query-index query c.queries-test.true)),
        subst (λ it. Names it c.args.dataset.now) c.items.ensures (c.names.ensures.0 c.if-names.true),
      )),
      (λ named. refl),
    )

pub returns : goal.returns
returns c = (
  (λ wrong. absurd (false≢true wrong)),
  (λ (other, inside, named).
      let queries = c.args.queries.now in
      let from = Contains-map_from query_of queries other inside in
      absurd (none_holds (λ (it : Query). Names (query_of it).body c.args.dataset.now) queries queries refl c.queries.query-index c.queries-test.false
      c.queries.invariant from.0 from.1 (subst (λ (it : ConjunctiveQuery). Names it.body c.args.dataset.now) (sym from.2) named))),
)

pub queries-preserved : goal.queries-preserved
queries-preserved c =
    holds_more_in (λ _ (it : Query). Names (query_of it).body c.args.dataset.now → ⊥) c.args.queries.now c.args.queries.now refl _ _ c.queries-test.true
    c.query-item.is c.queries.invariant
    (λ named. false≢true (sym c.if-names.false ∙ c.names.ensures.1 (subst (λ it. Names it c.args.dataset.now) (sym c.items.ensures) named)))
