use Rattle.std.proofs.Common.{Some, ap, ◌∙◌}
use Rattle.std.proofs.lemmas.Result.{IfOk-weaker}
use Rattle.esto_fill.proofs.WantedLemmas.{atom_any, atom_text, other_atom}
use Rattle.esto_fill.proofs.wanted.with_atom.Goals as goal

pub returns-then-atom-relation : goal.returns-then-atom-relation
returns-then-atom-relation c = other_atom c.args.relation c.args.atom.now c.args.texts c.if-atom-relation.true

pub returns-then-len-lt2 : goal.returns-then-len-lt2
returns-then-len-lt2 c = atom_any c.args.relation c.args.atom.now c.args.texts

pub returns-in-Const : goal.returns-in-Const
returns-in-Const c = IfOk-weaker c.with_text.result _ _
    (λ new more. atom_text c.args.relation c.args.atom.now c.in-Const.text c.args.texts new (c.item.ensures ∙ ap Some c.in-Const.is) more)
    c.with_text.ensures

pub returns-in-Plain : goal.returns-in-Plain
returns-in-Plain c = atom_any c.args.relation c.args.atom.now c.args.texts

pub returns-in-Made : goal.returns-in-Made
returns-in-Made c = atom_any c.args.relation c.args.atom.now c.args.texts
