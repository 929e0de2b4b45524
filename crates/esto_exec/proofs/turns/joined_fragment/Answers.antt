use Rattle.std.proofs.Common.{◌↔◌, Contains, subst}
use Rattle.std.proofs.lemmas.Result.{IfOk-weaker}
use Rattle.esto_columns.specs.CodedRows.{CodedRows}
use Rattle.esto_steps.specs.Joined.{IsJoin, IsKept}
use Rattle.esto_exec.proofs.RunLemmas.{join_asked, none_allowed}
use Rattle.esto_exec.proofs.turns.joined_fragment.Goals as goal

pub whole-requires : goal.whole-requires
whole-requires g c = none_allowed (g.F.Fragment.shape c.args.fragment.now) c.args.join.now.get.now.inputs
    (c.is_empty.ensures.0 c.if-is_empty.true) c.requires

pub returns-then-is_empty : goal.returns-then-is_empty
returns-then-is_empty g c = IfOk-weaker c.joined_firsts.result _ _
    (λ it told row. subst (λ (rows : CodedRows). Contains it.rows row
    ↔ IsKept c.args.join.now.kept.now (IsJoin c.args.join.now.get.now c.args.so_far.now.rows rows.rows) row)
    c.whole.ensures (told row))
    c.joined_firsts.ensures

pub returns : goal.returns
returns g c = IfOk-weaker c.joined_firsts-2.result _ _
    (λ it. join_asked c.args.join.now.get.now c.args.join.now.kept.now c.args.so_far.now.rows
    (g.F.Fragment.rows c.args.fragment.now) c.in_ok-asked.asked.rows it.rows c.in_ok-asked.ensures.sound c.in_ok-asked.ensures.complete)
    c.joined_firsts-2.ensures
