use Rattle.std.proofs.Common.{List, ◌++◌, sym, subst, ◌∙◌}
use Rattle.std.proofs.lemmas.Result.{IfOk-weaker}
use Rattle.esto_term.specs.declared.term.Term.{Term}
use Rattle.esto_semantics.specs.Facts.{terms_of}
use Rattle.esto_chase_laws.specs.Derived.{IsNamed}
use Rattle.esto_chase_laws.specs.WorldMatches.{Fits}
use Rattle.esto_chase_laws.specs.Worlds.{InWorld, Linked}
use Rattle.esto_derive.proofs.certificate.links_for.Goals as goal

pub links_of-requires-clause-fits : goal.links_of-requires-clause-fits
links_of-requires-clause-fits c =
    let world = c.args.world.now in
    subst (λ (it : List Term). Fits (Linked (InWorld world.entries.now world.set.now)) it c.items-2.result.now) (sym (c.items.ensures ∙ c.in_ok-from.ensures))
    (subst (λ (it : List Term). Fits (Linked (InWorld world.entries.now world.set.now)) (c.args.head.now ++ terms_of c.args.body.now) it)
    (sym (c.items-2.ensures ∙ c.in_ok-to.ensures)) c.requires.fits)

pub returns-clause-fits : goal.returns-clause-fits
returns-clause-fits c =
    let entries = c.args.world.now.entries.now in
    IfOk-weaker c.links_of.result _ _
    (λ links fits. subst (λ (it : List Term). Fits (Linked (IsNamed entries links)) (c.args.head.now ++ terms_of c.args.body.now) it)
    (c.items-2.ensures ∙ c.in_ok-to.ensures)
    (subst (λ (it : List Term). Fits (Linked (IsNamed entries links)) it c.items-2.result.now) (c.items.ensures ∙ c.in_ok-from.ensures) fits))
    c.links_of.ensures.fits
