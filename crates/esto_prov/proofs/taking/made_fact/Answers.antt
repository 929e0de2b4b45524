use Rattle.std.proofs.Common.{◌∙◌, ap, map}
use Rattle.std.proofs.lemmas.List.{take_all}
use Rattle.esto_prov.specs.Taking.{made_of}
use Rattle.esto_prov.proofs.PutLemmas.{put_more}
use Rattle.esto_prov.proofs.taking.made_fact.Goals as goal

pub terms-preserved : goal.terms-preserved
terms-preserved c =
    put_more (made_of c.args.number c.args.from.now c.args.to.now c.args.values.now) c.made_term-made.result c.items-term-items.result.now c.terms.terms
    c.put_made.new.items c.terms.term-index c.term-item.result c.terms-test.true c.term-item.is c.terms.invariant c.made_term-made.ensures
    c.in_ok-put_made.ensures

pub returns : goal.returns
returns c =
    ap (λ terms. record { relation = c.args.atom.now.relation; terms = terms })
    (c.terms.invariant ∙ ap (map (made_of c.args.number c.args.from.now c.args.to.now c.args.values.now))
    (take_all c.terms.term-index c.items-term-items.result.now c.terms-test.false ∙ c.items-term-items.ensures))
