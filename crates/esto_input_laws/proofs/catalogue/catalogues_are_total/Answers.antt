use Rattle.esto_input_laws.proofs.CatalogueLemmas.{catalogue_or_error}
use Rattle.esto_input_laws.proofs.catalogue.catalogues_are_total.Goals as goal

pub returns : goal.returns
returns c = λ bytes. catalogue_or_error bytes
