use Rattle.esto_fill.proofs.FileLemmas.{documents_give}
use Rattle.esto_fill.proofs.datasets.facts_of_documents.Goals as goal

pub returns : goal.returns
returns c =
    documents_give c.args.dataset.now c.args.wanted.now c.args.bytes.now c.args.first c.in_ok-relations.relations c.in_ok-relations.ensures
    c.encode_file.result c.encode_file.ensures
