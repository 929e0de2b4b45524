use Rattle.esto_fill.proofs.ValueLemmas.{flat_kept}
use Rattle.esto_fill.proofs.laws.loaded_facts_are_flat.Goals as goal

pub returns : goal.returns
returns c loaded = flat_kept loaded.facts loaded.sound
