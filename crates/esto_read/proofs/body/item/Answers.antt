use Rattle.esto_read.proofs.body.item.Goals as goal

pub fitting-requires-clause-stands : goal.fitting-requires-clause-stands
fitting-requires-clause-stands c = c.requires.stands

pub fitting-requires-clause-relations : goal.fitting-requires-clause-relations
fitting-requires-clause-relations c = c.requires.relations

pub atoms_of-requires-clause-utf8 : goal.atoms_of-requires-clause-utf8
atoms_of-requires-clause-utf8 c = c.requires.utf8

pub atoms_of-requires-clause-stands : goal.atoms_of-requires-clause-stands
atoms_of-requires-clause-stands c = c.requires.stands
