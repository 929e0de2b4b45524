use Rattle.std.proofs.Common.{sym, subst, IfOk}
use Rattle.esto_query.specs.Schemas.{names_of}
use Rattle.esto_reasoning.specs.Contains.{SaysTold}
use Rattle.esto_reasoning.proofs.containing.told_text.Goals as goal

pub returns-in-No : goal.returns-in-No
returns-in-No c =
    subst (λ it. IfOk c.shown_text.result (SaysTold (names_of c.args.catalogue.now.schema) c.args.left.now.names it)) (sym c.in-No.is) c.shown_text.ensures
