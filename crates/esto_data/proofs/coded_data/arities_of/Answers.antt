use Rattle.std.proofs.Common.{ℕ, ◌∷◌, ◌++◌, List, [], sym, ap, ◌∙◌, arith}
use Rattle.std.proofs.lemmas.List.{length-map, take_all}
use Rattle.esto_query.specs.Schemas.{arities_of}
use Rattle.esto_query.specs.declared.schema.Relation.{Relation}
use Rattle.esto_term.proofs.PlaceLemmas.{take-there}
use Rattle.esto_data.proofs.coded_data.arities_of.Goals as goal

pub relations-preserved : goal.relations-preserved
relations-preserved c =
    let all = arities_of c.args.schema.now in
    c.in_ok-push.ensures.ok ∙ ap (λ (those : List ℕ). those ++ c.arity.result ∷ []) c.relations.invariant
    ∙ sym (take-there all c.relations.relation c.arity.result c.arity.ensures.value)

pub returns : goal.returns
returns c =
    let all = arities_of c.args.schema.now in
    c.relations.invariant
    ∙ take_all c.relations.relation all
    (let long = length-map c.args.schema.now (λ (it : Relation). it.arity) in let past = c.relations-test.false in
    let count = c.len-relation-end.ensures.value in omega (arith, long, past, count))
