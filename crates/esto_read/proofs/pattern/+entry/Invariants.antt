use Rattle.esto_text.specs.View.{entry_of, entries_of}
use Rattle.esto_read.proofs.PatternLemmas.{EntriesSoFar, entry_weight, entries_weight}
use Rattle.esto_read.proofs.pattern.+entry.Given as goal

abbrev pub decreases-entry : goal.decreases-entry
decreases-entry l = entry_weight (entry_of l.entry.now)

abbrev pub decreases-entries : goal.decreases-entries
decreases-entries l = entries_weight (entries_of l.entries.now)

abbrev pub invariant-entries-entries : goal.invariant-entries-entries
invariant-entries-entries l = EntriesSoFar l.bytes l.initial.names l.entries l.each-index l.it l.names
