use Rattle.std.proofs.Common.{◌↔◌, ◌<◌, ◌≤◌, ℕ, List, IsTrue, sym, ap, ◌∙◌, subst}
use Rattle.esto_coded.specs.Coded.{Coded, rows_in}
use Rattle.esto_coded.proofs.ShownLemmas.{NodeIn, held_there, held_past, none_in}
use Rattle.esto_coded.proofs.coded.CodedFacts.has_node.Goals as goal

pub returns-then-relation-len : goal.returns-then-relation-len
returns-then-relation-len c = none_in (rows_in c.args.self.now.relations c.args.relation) c.args.column
    (ap (λ (it : Coded). rows_in it.relations c.args.relation) (sym c.self.view_is)
    ∙ held_past c.self.inside.relations.items c.args.relation (subst (λ count. count ≤ c.args.relation)
    (c.len.ensures ∙ c.self.inside.relations.ok.0) c.if-relation-len.true))

pub returns : goal.returns
returns c = subst (λ (rows : List (List ℕ)). IsTrue c.node_at.result ↔ NodeIn rows c.args.column)
    (sym (held_there c.self.inside.relations.items c.args.relation c.index.result.now
    (subst (λ count. c.args.relation < count) (c.len.ensures ∙ c.self.inside.relations.ok.0) c.if-relation-len.false) c.index.ensures)
    ∙ ap (λ (it : Coded). rows_in it.relations c.args.relation) c.self.view_is)
    c.node_at.ensures
