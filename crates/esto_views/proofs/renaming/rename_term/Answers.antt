use Rattle.std.proofs.Common.{◌≡◌, IfOk, sym, subst}
use Rattle.esto_term.specs.declared.term.Term.{Term}
use Rattle.esto_views.proofs.RenamingLemmas.{numbered_first, numbered-outside}
use Rattle.esto_views.proofs.renaming.rename_term.Goals as goal

pub returns-in-Some : goal.returns-in-Some
returns-in-Some c = sym (numbered_first c.args.seen.now c.in-Some.place c.args.term.now c.in-Some.ensures.0 c.in-Some.ensures.1)

pub returns-in-None : goal.returns-in-None
returns-in-None c =
    subst (λ (it : Term). IfOk c.copy.result (λ renamed. renamed ≡ it)) (sym (numbered-outside 0 c.args.seen.now c.args.term.now c.in-None.ensures))
    c.copy.ensures
