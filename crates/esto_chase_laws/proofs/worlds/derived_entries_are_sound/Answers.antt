use Rattle.esto_chase_laws.proofs.SoundLemmas.{are_sound, are_nowhere}
use Rattle.esto_chase_laws.proofs.worlds.derived_entries_are_sound.Goals as goal

pub returns-clause-sound : goal.returns-clause-sound
returns-clause-sound c = are_sound

pub returns-clause-nowhere : goal.returns-clause-nowhere
returns-clause-nowhere c = are_nowhere
