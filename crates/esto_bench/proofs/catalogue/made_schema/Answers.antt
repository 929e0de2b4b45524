use Rattle.std.proofs.Common.{◌≡◌, ℕ, List, [], ◌∷◌, ◌++◌, length, subst, sym, ap, ◌∙◌, arith}
use Rattle.std.specs.Prelude.{Contains}
use Rattle.esto_query.specs.Schemas.{names_of}
use Rattle.esto_query.specs.declared.schema.Relation.{Relation}
use Rattle.esto_bench.specs.Case.{made_relation, made_schema}
use Rattle.esto_bench.proofs.BothLemmas.{mapped_more}
use Rattle.esto_bench.proofs.CatalogueLemmas.{name_is_new, schema_long}
use Rattle.esto_bench.proofs.catalogue.made_schema.Goals as goal

pub add_relation-requires-clause-new : goal.add_relation-requires-clause-new
add_relation-requires-clause-new c = λ inside.
    name_is_new c.relations.relation (omega arith)
    (subst (Contains (names_of _)) c.in_ok-name.ensures (subst (λ it. Contains (names_of it) c.in_ok-name.name) c.relations.invariant inside))

pub add_relation-requires-clause-room : goal.add_relation-requires-clause-room
add_relation-requires-clause-room c =
    let long : length c.relations.schema ≡ c.relations.relation = ap length c.relations.invariant ∙ schema_long c.relations.relation in
    omega (arith, long)

pub relations-preserved : goal.relations-preserved
relations-preserved c =
    c.in_ok-add_relation.ensures
    ∙ ap (λ (it : List Relation). it ++ record { name = c.in_ok-name.name; arity = 2 } ∷ []) c.relations.invariant
    ∙ ap (λ (it : List ℕ). made_schema c.relations.relation ++ record { name = it; arity = 2 } ∷ []) c.in_ok-name.ensures
    ∙ sym (mapped_more made_relation c.relations.relation)
