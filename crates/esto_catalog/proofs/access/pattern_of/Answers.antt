use Rattle.std.proofs.lemmas.List.Elements.{Contains-get_or}
use Rattle.esto_catalog.proofs.AccessLemmas.{no_pattern}
use Rattle.esto_catalog.proofs.access.pattern_of.Goals as goal

pub returns-in_default : goal.returns-in_default
returns-in_default c =
    no_pattern c.args.columns c.args.text.now _ (Contains-get_or c.args.text.now c.letters.letter-index 0 c.letters-test.true) c.in_default.ensures
