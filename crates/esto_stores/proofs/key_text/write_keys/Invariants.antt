use Rattle.esto_stores.proofs.KeyTextLemmas.{HasWritten}
use Rattle.esto_stores.proofs.key_text.write_keys.Given as goal

abbrev pub invariant-rows : goal.invariant-rows
invariant-rows l = HasWritten l.row-items l.row-index l.text
