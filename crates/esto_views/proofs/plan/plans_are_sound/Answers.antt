use Rattle.esto_views.proofs.SoundLemmas.{sound_of}
use Rattle.esto_views.proofs.plan.plans_are_sound.Goals as goal

pub returns : goal.returns
returns c plan = sound_of _ _ _ plan.sound
