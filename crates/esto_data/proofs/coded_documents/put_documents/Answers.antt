use Rattle.esto_data.proofs.CodedLoadLemmas.{documents_places, documents_put}
use Rattle.esto_data.proofs.coded_documents.put_documents.Goals as goal

pub put_kept-requires : goal.put_kept-requires
put_kept-requires c =
    documents_places c.args.dataset.now c.args.coded.now c.requires.relations c.requires.model c.in_ok-relations.relations c.in_ok-relations.ensures.from_base

pub returns : goal.returns
returns c =
    documents_put c.args.dataset.now c.args.wanted.now c.args.bytes.now c.args.coded.now c.put_kept.new.coded c.in_ok-relations.relations
    c.in_ok-relations.ensures c.put_kept.result c.put_kept.ensures
