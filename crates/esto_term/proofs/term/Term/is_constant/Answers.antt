use Rattle.std.proofs.Common.{refl}
use Rattle.esto_term.proofs.EqualLemmas.{no_constant_Plain, no_constant_Made}
use Rattle.esto_term.proofs.term.Term.is_constant.Goals as goal

pub returns-in-Const : goal.returns-in-Const
returns-in-Const c = (λ _. (_, c.in-Const.is), λ _. refl)

pub returns-in-Plain : goal.returns-in-Plain
returns-in-Plain c = no_constant_Plain _ _ c.in-Plain.is

pub returns-in-Made : goal.returns-in-Made
returns-in-Made c = no_constant_Made _ _ _ _ c.in-Made.is
