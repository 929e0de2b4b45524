use Rattle.esto_stores.proofs.KeyTextLemmas.{HasJoined}
use Rattle.esto_stores.proofs.key_text.put_cells.Given as goal

abbrev pub invariant-cells : goal.invariant-cells
invariant-cells l = HasJoined l.fn.text l.first l.others l.cell-index l.text
