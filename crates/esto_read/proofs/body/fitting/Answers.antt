use Rattle.std.proofs.Common.{◌+◌, ◌≤◌, sym, ◌∙◌, arith}
use Rattle.std.proofs.lemmas.Bool.{false≢true}
use Rattle.esto_query.specs.declared.make.TheConstants.{MAX_ATOMS}
use Rattle.esto_text.specs.View.{item_of}
use Rattle.esto_read.specs.Items.{item_size}
use Rattle.esto_read.proofs.body.fitting.Goals as goal

pub relation_of-requires-clause-stands : goal.relation_of-requires-clause-stands
relation_of-requires-clause-stands c = c.requires.stands

pub relation_of-requires-clause-relations : goal.relation_of-requires-clause-relations
relation_of-requires-clause-relations c = c.requires.relations

pub returns-in_default-clause-err : goal.returns-in_default-clause-err
returns-in_default-clause-err c = c.in_default.ensures.named

pub has_arity-requires : goal.has_arity-requires
has_arity-requires c = c.in-Some.ensures.inside

pub returns-then-not-has_arity-clause-err : goal.returns-then-not-has_arity-clause-err
returns-then-not-has_arity-clause-err c =
    (c.in-Some.relation, c.in-Some.ensures.named, λ has. false≢true (sym c.if-not-has_arity.true ∙ c.has_arity.ensures.1 has))

pub returns-then-not-has_room-clause-err : goal.returns-then-not-has_room-clause-err
returns-then-not-has_room-clause-err c =
    let full = λ (room : c.args.atoms + item_size (item_of c.args.item.now) ≤ MAX_ATOMS). false≢true
    (sym c.if-not-has_room.true ∙ c.has_room.ensures.1 room) in
    (c.in-Some.relation, c.in-Some.ensures.named, c.has_arity.ensures.0 c.if-not-has_arity.false, omega (arith, full))

pub returns-clause-ok : goal.returns-clause-ok
returns-clause-ok c = (c.in-Some.ensures.named, c.has_arity.ensures.0 c.if-not-has_arity.false, c.has_room.ensures.0 c.if-not-has_room.false)
