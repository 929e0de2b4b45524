use Rattle.esto_rewriting.proofs.TextLemmas.{GoesOn}
use Rattle.esto_rewriting.proofs.list.union_text.Given as goal

abbrev pub invariant-members : goal.invariant-members
invariant-members l = GoesOn l.catalogue l.members l.place l.text
