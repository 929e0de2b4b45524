use Rattle.esto_read.proofs.body.atoms_of.Goals as goal

pub atom-requires-clause-utf8 : goal.atom-requires-clause-utf8
atom-requires-clause-utf8 c = c.requires.utf8

pub atom-requires-clause-stand : goal.atom-requires-clause-stand
atom-requires-clause-stand c = rw c.items.ensures (rw c.in-Atom.is at c.requires.stands).1

pub atom-requires-in-Part-clause-utf8 : goal.atom-requires-in-Part-clause-utf8
atom-requires-in-Part-clause-utf8 c = c.requires.utf8

pub atom-requires-in-Part-clause-stand : goal.atom-requires-in-Part-clause-stand
atom-requires-in-Part-clause-stand c = rw c.items-in-Part.ensures (rw c.in-Part.is at c.requires.stands).2

pub pattern-requires-clause-utf8 : goal.pattern-requires-clause-utf8
pattern-requires-clause-utf8 c = c.requires.utf8

pub pattern-requires-clause-stand : goal.pattern-requires-clause-stand
pattern-requires-clause-stand c = rw c.items-in-Pattern.ensures (rw c.in-Pattern.is at c.requires.stands).1
