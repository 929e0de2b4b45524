use Rattle.esto_stores.proofs.ReaderLemmas.{takes, reads_on}
use Rattle.esto_stores.proofs.reader.read_next.Goals as goal

pub returns-in-Ok-clause-taken : goal.returns-in-Ok-clause-taken
returns-in-Ok-clause-taken c =
    let e = c.in-Ok.ensures in
    takes c.args.reader.now c.read_byte_record.new.self c.in-Ok.found _ c.requires (e.reads c.requires.trim c.requires.ready)

pub returns-in-Ok-clause-reads : goal.returns-in-Ok-clause-reads
returns-in-Ok-clause-reads c found =
    let e = c.in-Ok.ensures in
    reads_on c.args.reader.now c.read_byte_record.new.self c.in-Ok.found _ c.requires (e.reads c.requires.trim c.requires.ready)
    (e.ready c.requires.trim) e.flexible found
