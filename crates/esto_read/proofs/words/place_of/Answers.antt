use Rattle.esto_read.proofs.words.place_of.Goals as goal

pub returns-in-Documents : goal.returns-in-Documents
returns-in-Documents c = rw c.in-Documents.is c.document_part.ensures
