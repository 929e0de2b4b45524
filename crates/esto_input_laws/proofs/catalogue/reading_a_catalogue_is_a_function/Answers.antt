use Rattle.esto_mapping.specs.Catalogues.{AreSame}
use Rattle.esto_catalog.specs.Reading.{IsCatalogueOf}
use Rattle.esto_input_laws.proofs.FunctionLemmas.{is_function}
use Rattle.esto_input_laws.proofs.CatalogueLemmas.{catalogue_or_own_error}
use Rattle.esto_input_laws.specs.CatalogueLaws.{IsOwnError}
use Rattle.esto_input_laws.proofs.catalogue.reading_a_catalogue_is_a_function.Goals as goal

pub returns : goal.returns
returns c =
    let one = c.catalogues_are_determined.ensures in
    is_function AreSame IsCatalogueOf IsOwnError catalogue_or_own_error (λ bytes catalogue other is is'. one.catalogue bytes catalogue other is is')
    (λ bytes catalogue cause is (caused, error). caused (one.apart bytes catalogue cause is error))
    (λ bytes cause other (caused, error) (caused', error'). one.error bytes cause other error error' caused caused')
