use Rattle.std.proofs.Common.{refl}
use Rattle.esto_docmodel.proofs.documents.encode_document.Goals as goal

pub returns : goal.returns
returns c =
    let puts = c.in_ok-encoded.ensures in
    record { facts = puts.facts.held c.args.encoded.now.facts refl; next = puts.next; rising = puts.rising }
