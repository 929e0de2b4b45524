use Rattle.esto_docmodel.proofs.SameLemmas.{means_the_same}
use Rattle.esto_docmodel.specs.Shapes.{documents, entries_of}
use Rattle.esto_docmodel.proofs.laws.encodings_mean_the_same.Goals as goal

pub returns : goal.returns
returns c base first trees entries r next fresh = means_the_same base first (documents trees) (entries_of entries) r next fresh
