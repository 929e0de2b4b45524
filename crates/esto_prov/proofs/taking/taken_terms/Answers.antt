use Rattle.std.proofs.Common.{◌≡◌, ◌∙◌, IfOk, ap, map, subst}
use Rattle.std.proofs.lemmas.List.{take_all}
use Rattle.esto_chase_laws.specs.WorldMatches.{taken}
use Rattle.esto_prov.proofs.PutLemmas.{put_more}
use Rattle.esto_prov.proofs.taking.taken_terms.Goals as goal

pub terms-preserved : goal.terms-preserved
terms-preserved c =
    put_more (taken c.args.from.now c.args.to.now) c.copy-met.result c.args.terms.now c.terms.taken c.put_made.new.items c.terms.term-index
    c.term-item.result c.terms-test.true c.term-item.is c.terms.invariant
    (subst (λ met. IfOk c.copy-met.result (λ it. it ≡ met)) c.taken_term.ensures c.copy-met.ensures) c.in_ok-put_made.ensures

pub returns : goal.returns
returns c =
    c.terms.invariant ∙ ap (map (taken c.args.from.now c.args.to.now)) (take_all c.terms.term-index c.args.terms.now c.terms-test.false)
