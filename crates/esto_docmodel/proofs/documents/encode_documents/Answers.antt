use Rattle.std.proofs.Common.{refl}
use Rattle.esto_docmodel.proofs.DocumentLemmas.{every_encoded}
use Rattle.esto_docmodel.proofs.FactLemmas.{these_meet_rules, these_have_roots_on_top}
use Rattle.esto_docmodel.specs.Shapes.{documents}
use Rattle.esto_docmodel.proofs.documents.encode_documents.Goals as goal

pub returns-clause-facts : goal.returns-clause-facts
returns-clause-facts c =
    let encodes = rw (c.every.ensures, c.items.ensures) at c.in_ok-put.ensures in
    every_encoded c.args.base c.args.next c.args.trees.now _ _ c.new-facts.ensures refl encodes

pub returns-clause-rules : goal.returns-clause-rules
returns-clause-rules c =
    let encodes = rw (c.every.ensures, c.items.ensures) at c.in_ok-put.ensures in
    these_meet_rules c.args.base c.args.next (documents c.args.trees.now) _
    (every_encoded c.args.base c.args.next c.args.trees.now _ _ c.new-facts.ensures refl encodes) encodes.rising

pub returns-clause-roots : goal.returns-clause-roots
returns-clause-roots c =
    let encodes = rw (c.every.ensures, c.items.ensures) at c.in_ok-put.ensures in
    these_have_roots_on_top c.args.base c.args.next (documents c.args.trees.now) _
    (every_encoded c.args.base c.args.next c.args.trees.now _ _ c.new-facts.ensures refl encodes)
