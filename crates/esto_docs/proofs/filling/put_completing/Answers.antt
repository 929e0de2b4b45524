use Rattle.std.proofs.Common.{List, length, refl, sym, subst}
use Rattle.std.proofs.lemmas.Result.{on_ok_weaker}
use Rattle.esto_docs.specs.Filling.{cells_of, AreReady, Completes, Task}
use Rattle.esto_docs.specs.Rows.{Gains}
use Rattle.esto_docs.proofs.FillingTurns.{only_task}
use Rattle.esto_docs.proofs.filling.put_completing.Goals as goal

pub fill-requires : goal.fill-requires
fill-requires c = subst (AreReady (length c.args.cells.now)) (sym (only_task c.args.entries c.args.value _ refl)) c.requires

pub returns : goal.returns
returns c =
    on_ok_weaker c.fill.result
    (λ fills. subst (λ (ts : List Task). Gains (Completes (length c.args.cells.now) ts (cells_of c.args.cells.now)) c.args.rows.now c.fill.new.rows)
    (only_task c.args.entries c.args.value _ refl) fills.gains) c.fill.ensures
