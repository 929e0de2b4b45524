use Rattle.std.proofs.Common.{refl}
use Rattle.esto_catalog.proofs.WalkLemmas.{sound_catalogue}
use Rattle.esto_catalog.proofs.walk.catalogue_of.Goals as goal

pub invariant_of-result : goal.invariant_of-result
invariant_of-result c =
    let (version, own, are) = c.requires.ranked in
    record {
      sound = ∣ sound_catalogue version c.args.scope c.args.fragments own c.args.ranked c.requires.scope c.requires.fragments c.requires.rules are ∣₁;
    }

pub returns : goal.returns
returns c = record {
  schema = c.requires.scope.schema;
  words = c.requires.scope.words;
  same_datasets = refl;
  definitions = refl;
  stores = refl;
  rules = refl;
  given = refl;
  ranks = refl;
  core_is = refl;
}
