use Rattle.std.proofs.Common.{inl, sym, ◌∙◌}
use Rattle.std.proofs.lemmas.Bool.{false≢true}
use Rattle.esto_query.specs.Trails.{with_trail}
use Rattle.esto_query.proofs.RowLemmas.{variable_known}
use Rattle.esto_query.proofs.answer.is_known.Goals as goal

pub returns-in-Plain : goal.returns-in-Plain
returns-in-Plain c = λ some.
    variable_known (with_trail c.args.start.now c.args.trail.now) c.args.term.now c.in-Plain.variable c.value.result c.in-Plain.is c.value.ensures
    (sym c.is_some.ensures ∙ some)

pub returns-in-Const : goal.returns-in-Const
returns-in-Const c = λ known. inl (_, c.in-Const.is)

pub returns-in-Made : goal.returns-in-Made
returns-in-Made c = λ known. absurd (false≢true known)
