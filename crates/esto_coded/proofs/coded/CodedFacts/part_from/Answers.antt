use Rattle.std.proofs.Common.{ap, ◌∙◌, subst}
use Rattle.std.specs.Result.{IfOk}
use Rattle.esto_coded.specs.Coded.{Coded}
use Rattle.esto_coded.specs.Parted.{ArePart}
use Rattle.esto_coded.specs.Relations.{coded_of}
use Rattle.esto_coded.proofs.coded.CodedFacts.part_from.Goals as goal

pub returns : goal.returns
returns c = subst (λ (coded : Coded). IfOk c.part_of.result (ArePart coded c.args.body.now c.args.set.now))
    (ap (coded_of c.self.inside.codes) c.as_slice.ensures.value ∙ c.self.view_is) c.part_of.ensures
