use Rattle.esto_ports.proofs.LineLemmas.{line_first, line_last}
use Rattle.esto_ports.proofs.lines.cut_line.Goals as goal

pub returns-in-Some-clause-lines : goal.returns-in-Some-clause-lines
returns-in-Some-clause-lines c = line_first c.args.bytes.now c.in-Some.end c.in-Some.ensures

pub returns-in-None-clause-lines : goal.returns-in-None-clause-lines
returns-in-None-clause-lines c = line_last c.args.bytes.now c.in-None.ensures c.requires
