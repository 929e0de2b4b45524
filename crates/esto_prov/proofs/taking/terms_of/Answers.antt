use Rattle.esto_semantics.specs.declared.fact.Fact.{Fact}
use Rattle.esto_term.specs.declared.term.Term.{Term}
use Rattle.esto_prov.proofs.PutLemmas.{put_list}
use Rattle.esto_prov.proofs.taking.terms_of.Goals as goal

pub atoms-preserved : goal.atoms-preserved
atoms-preserved c =
    put_list (λ (fact : Fact Term). fact.terms) c.args.atoms.now c.atoms.terms c.put_terms.new.terms c.items.result.now c.atoms.atom-index
    c.atom-item.result c.atoms-test.true c.atom-item.is c.atoms.invariant c.items.ensures c.in_ok-put_terms.ensures
