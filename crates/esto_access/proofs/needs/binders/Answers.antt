use Rattle.std.proofs.Common.{◌∙◌, sym}
use Rattle.std.proofs.lemmas.Bool.{false≢true}
use Rattle.std.proofs.lemmas.Result.{IfOk-weaker}
use Rattle.esto_access.proofs.NeedLemmas.{binds_constant, binds_other}
use Rattle.esto_access.proofs.needs.binders.Goals as goal

pub returns-then-is_constant-clause-count : goal.returns-then-is_constant-clause-count
returns-then-is_constant-clause-count c = IfOk-weaker c.every_set.result _ _ (λ _ count. count ∙ c.len.ensures) c.every_set.ensures.count

pub returns-then-is_constant-clause-covers : goal.returns-then-is_constant-clause-covers
returns-then-is_constant-clause-covers c = IfOk-weaker c.every_set.result _ _
    (λ it covers. binds_constant c.args.plan.now.atoms c.args.supplies.now c.args.term.now it.sets covers
    (c.is_constant.ensures.0 c.if-is_constant.true)) c.every_set.ensures.covers

pub returns-clause-count : goal.returns-clause-count
returns-clause-count c = c.givers.ensures.count

pub returns-clause-covers : goal.returns-clause-covers
returns-clause-covers c = IfOk-weaker c.givers.result _ _
    (λ it covers. binds_other c.args.plan.now.atoms c.args.supplies.now c.args.term.now it.sets
    (λ constant. false≢true (sym c.if-is_constant.false ∙ c.is_constant.ensures.1 constant)) covers) c.givers.ensures.covers
