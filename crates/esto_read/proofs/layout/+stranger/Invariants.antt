use Rattle.esto_text.specs.View.{entry_of, entries_of}
use Rattle.esto_read.proofs.LayoutLemmas.{StrangersSoFar}
use Rattle.esto_read.proofs.PatternLemmas.{entry_weight, entries_weight}
use Rattle.esto_read.proofs.layout.+stranger.Given as goal

abbrev pub decreases-stranger_in : goal.decreases-stranger_in
decreases-stranger_in l = entry_weight (entry_of l.entry.now)

abbrev pub decreases-first_stranger : goal.decreases-first_stranger
decreases-first_stranger l = entries_weight (entries_of l.entries.now)

abbrev pub invariant-first_stranger-entries : goal.invariant-first_stranger-entries
invariant-first_stranger-entries l = StrangersSoFar l.bytes l.columns l.entries l.entry-index
