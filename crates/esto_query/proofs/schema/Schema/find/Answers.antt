use Rattle.std.proofs.Common.{◌≢◌, sym, ◌∙◌}
use Rattle.std.proofs.lemmas.Bool.{false≢true}
use Rattle.esto_query.specs.declared.schema.Relation.{Relation}
use Rattle.esto_query.proofs.SchemaLemmas.{name_missing}
use Rattle.esto_query.proofs.schema.Schema.find.Goals as goal
use Rattle.esto_term.proofs.ListLemmas.{each_more, each_seen}

pub loop-number-preserved : goal.loop-number-preserved
loop-number-preserved c =
    each_more (λ (relation : Relation). relation.name ≢ c.args.name.now) _ _ _ c.loop-number-test.true c.relation-item.is
    (λ same. false≢true (sym c.if-has_name.false ∙ c.has_name.ensures.1 same)) c.loop-number.invariant

pub returns : goal.returns
returns c =
    let apart = each_seen (λ (relation : Relation). relation.name ≢ c.args.name.now) _ c.loop-number.number c.loop-number-test.false c.loop-number.invariant in
    name_missing c.args.self.now _ (rw (c.items-relation-items.ensures, c.self.view_is) at apart)
