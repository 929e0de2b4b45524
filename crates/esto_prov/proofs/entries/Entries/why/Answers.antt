use Rattle.std.proofs.Common.{subst, ◌∙◌}
use Rattle.std.proofs.lemmas.Result.{IfOk-weaker}
use Rattle.esto_prov.specs.Derivations.{IsWhy}
use Rattle.esto_prov.proofs.LeafLemmas.{leaves_are}
use Rattle.esto_prov.proofs.entries.Entries.why.Goals as goal

pub returns-clause-exact : goal.returns-clause-exact
returns-clause-exact c =
    IfOk-weaker c.why_of.result _ _ (λ why. subst (λ it. IsWhy it c.args.at why) (c.items.ensures ∙ c.self.view_is)) c.why_of.ensures

pub returns-clause-leaves : goal.returns-clause-leaves
returns-clause-leaves c =
    IfOk-weaker c.why_of.result _ _ (λ why is. leaves_are c.args.self.now c.entries_are_reasoned.ensures c.args.at why
    (subst (λ it. IsWhy it c.args.at why) (c.items.ensures ∙ c.self.view_is) is)) c.why_of.ensures
