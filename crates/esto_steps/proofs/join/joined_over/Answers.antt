use Rattle.std.proofs.Common.{ap, ◌∙◌}
use Rattle.esto_columns.specs.CodedRows.{CodedRows}
use Rattle.esto_steps.specs.Joined.{IsJoin, IsKept}
use Rattle.esto_steps.specs.Paired.{Gained, gained_rows}
use Rattle.esto_steps.proofs.GainLemmas.{joins_unnamed, joins_gained}
use Rattle.esto_steps.proofs.join.joined_over.Goals as goal

pub returns-then-not-name_all : goal.returns-then-not-name_all
returns-then-not-name_all c =
    joins_unnamed c.args.join.now.get.now c.args.join.now.kept.now c.args.so_far.now.rows c.args.rows.now.rows c.in_ok-new.field-0.rows
    (ap (λ (them : CodedRows). them.rows) c.in_ok-new.ensures) (c.name_all.ensures.none c.if-not-name_all.true)

pub push_by_index-requires-clause-none : goal.push_by_index-requires-clause-none
push_by_index-requires-clause-none c = ap (gained_rows c.args.join.now.kept.now c.args.so_far.now c.args.rows.now) c.in_ok-gained.ensures

pub push_by_index-requires-clause-arity : goal.push_by_index-requires-clause-arity
push_by_index-requires-clause-arity c = ap (λ (it : Gained). it.own.arity) c.in_ok-gained.ensures

pub push_by_index-requires-clause-named : goal.push_by_index-requires-clause-named
push_by_index-requires-clause-named c = c.name_all.ensures.all c.if-not-name_all.false

pub into_rows-requires : goal.into_rows-requires
into_rows-requires c = c.in_ok-push_by_index.ensures.arity ∙ ap (λ (it : Gained). it.own.arity) c.in_ok-gained.ensures

pub returns : goal.returns
returns c = joins_gained c.args.join.now.kept.now c.args.so_far.now c.args.rows.now c.in_ok-joined.joined c.push_by_index.new.into
    (IsKept c.args.join.now.kept.now (IsJoin c.args.join.now.get.now c.args.so_far.now.rows c.args.rows.now.rows)) c.in_ok-joined.ensures
    (c.in_ok-push_by_index.ensures.rows c.if-not-branch.false)
