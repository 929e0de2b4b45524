use Rattle.std.proofs.Common.{◌≡◌, sym, ◌∙◌}
use Rattle.std.proofs.lemmas.Bool.{false≢true}
use Rattle.esto_term.specs.declared.term.Term.TheVariants.{Plain, Const, Made}
use Rattle.esto_docmodel.proofs.LayoutLemmas.{same_variable}
use Rattle.esto_docmodel.proofs.layout.is_variable.Goals as goal

pub returns-in-Plain : goal.returns-in-Plain
returns-in-Plain c = same_variable c.args.term.now c.in-Plain.variable c.args.number c.in-Plain.is

pub returns-in-Const : goal.returns-in-Const
returns-in-Const c = (
  λ e. absurd (false≢true e),
  λ h. let wrong : Plain c.args.number ≡ Const c.in-Const.field-0 = sym h ∙ c.in-Const.is in cc,
)

pub returns-in-Made : goal.returns-in-Made
returns-in-Made c = (
  λ e. absurd (false≢true e),
  λ h. let wrong : Plain c.args.number ≡ Made c.in-Made.field-0 c.in-Made.field-1 c.in-Made.field-2 = sym h ∙ c.in-Made.is in cc,
)
