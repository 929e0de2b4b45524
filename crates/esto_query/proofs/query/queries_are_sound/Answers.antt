use Rattle.esto_query.proofs.SoundLemmas.{sound_of}
use Rattle.esto_query.proofs.query.queries_are_sound.Goals as goal

pub returns : goal.returns
returns c query = sound_of _ _ _ query.sound
