use Rattle.esto_derive.proofs.TextLemmas.{read_back}
use Rattle.esto_derive.proofs.printing.written_lines_are_read_back.Goals as goal

pub returns : goal.returns
returns c = read_back
