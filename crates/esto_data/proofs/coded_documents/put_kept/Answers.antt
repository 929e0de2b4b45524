use Rattle.esto_data.proofs.CodedLoadLemmas.{gained_put}
use Rattle.esto_data.proofs.coded_documents.put_kept.Goals as goal

pub encode_into-requires : goal.encode_into-requires
encode_into-requires c = c.requires

pub returns : goal.returns
returns c = (c.in_ok-next.ensures.0, gained_put _ _ _ _ _ c.in_ok-next.ensures.1)
