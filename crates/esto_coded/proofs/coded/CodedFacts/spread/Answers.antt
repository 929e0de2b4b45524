use Rattle.std.proofs.Common.{ap, ◌∙◌, subst}
use Rattle.esto_coded.specs.Coded.{Coded}
use Rattle.esto_coded.specs.Relations.{coded_of}
use Rattle.esto_coded.specs.Spread.{Spreads}
use Rattle.esto_coded.proofs.SpreadLemmas.{some_weaker}
use Rattle.esto_coded.proofs.coded.CodedFacts.spread.Goals as goal

pub returns : goal.returns
returns c = some_weaker c.spread_codes.result _ _
    (λ set told. subst (λ (coded : Coded). Spreads coded c.args.lead.now c.args.atoms.now c.args.seed set)
    (ap (coded_of c.self.inside.codes) c.as_slice.ensures.value ∙ c.self.view_is) (told c.self.inside.codes))
    c.spread_codes.ensures
