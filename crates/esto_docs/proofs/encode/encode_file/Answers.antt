use Rattle.std.proofs.Common.{[]}
use Rattle.esto_docs.proofs.encode.encode_file.Goals as goal

pub returns-in-Ok : goal.returns-in-Ok
returns-in-Ok c =
    let puts = c.in-Ok.ensures.1 in
    (c.in-Ok.ensures.0, record { facts = puts.facts.held [] c.new-facts.ensures; next = puts.next; rising = puts.rising })
