use Rattle.std.proofs.lemmas.Bool.{false≢true}
use Rattle.esto_docmodel.specs.Layouts.{paths}
use Rattle.esto_docmodel.specs.Shapes.{entries_of}
use Rattle.esto_docmodel.proofs.LayoutLemmas.{new_field}
use Rattle.esto_docmodel.proofs.layout.is_new_field.Goals as goal

pub returns-in-Some : goal.returns-in-Some
returns-in-Some c =
    new_field c.some_begins_with.result c.args.path.now c.in-Some.name.now (paths (entries_of c.args.others.now)) c.in-Some.ensures c.some_begins_with.ensures

pub returns-in-None : goal.returns-in-None
returns-in-None c = (λ e. absurd (false≢true e), λ (name, begins, none). absurd (c.in-None.ensures name begins))
