use Rattle.esto_mapping.proofs.SoundLemmas.{catalogue_known}
use Rattle.esto_mapping.proofs.laws.catalogues_are_sound.Goals as goal

pub returns : goal.returns
returns c it = catalogue_known it.schema it.words it.datasets it.fragments it.stores it.rules it.given it.ranks it.sound
