use Rattle.esto_fill.proofs.LawfulLemmas.{documents_are_lawful}
use Rattle.esto_fill.proofs.laws.documents_are_lawful.Goals as goal

pub returns : goal.returns
returns c = documents_are_lawful
