use Rattle.esto_docmodel.proofs.DocumentLemmas.{none_more, one_more}
use Rattle.esto_docmodel.proofs.documents.put_documents.Goals as goal

pub trees-init : goal.trees-init
trees-init c = none_more c.args.relations.now c.args.encoded.now

pub trees-preserved : goal.trees-preserved
trees-preserved c = one_more c.args.relations.now c.args.trees.now c.trees.tree-index _ _ _ _ _ c.trees-test.true c.tree-item.is c.trees.invariant
    c.in_ok-encode_document.ensures
