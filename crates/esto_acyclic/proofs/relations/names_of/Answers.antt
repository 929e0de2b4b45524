use Rattle.std.proofs.Common.{Some, ap, subst, sym, ◌∙◌}
use Rattle.std.proofs.lemmas.List.{take_all}
use Rattle.esto_acyclic.specs.Relations.{AreNamesOf}
use Rattle.esto_acyclic.proofs.PushLemmas.{names_more}
use Rattle.esto_acyclic.proofs.relations.names_of.Goals as goal

pub name-requires : goal.name-requires
name-requires c = c.requires c.relations.relation-index 0 c.relations-test.true

pub relations-preserved : goal.relations-preserved
relations-preserved c =
    names_more c.args.schema.now c.args.relations.now c.relations.relation-index _ c.relations.names c.push.new.self c.relations-test.true
    (c.name.ensures ∙ ap Some (sym c.in_ok-name.ensures)) c.relations.invariant c.in_ok-push.ensures.ok

pub returns : goal.returns
returns c =
    subst (λ them. AreNamesOf c.args.schema.now them c.relations.names) (take_all c.relations.relation-index c.args.relations.now c.relations-test.false)
    c.relations.invariant
