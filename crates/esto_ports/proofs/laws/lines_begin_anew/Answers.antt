use Rattle.esto_ports.proofs.LineLemmas.{begin_anew, lines_join, lines_count}
use Rattle.esto_ports.proofs.laws.lines_begin_anew.Goals as goal

pub returns-clause-first : goal.returns-clause-first
returns-clause-first c = begin_anew

pub returns-clause-join : goal.returns-clause-join
returns-clause-join c = lines_join

pub returns-clause-count : goal.returns-clause-count
returns-clause-count c = lines_count
