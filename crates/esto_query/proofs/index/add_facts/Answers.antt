use Rattle.std.proofs.Common.{refl, subst, arith}
use Rattle.std.proofs.lemmas.Option.{slice_get_read}
use Rattle.esto_query.specs.Indexes.{AreListed}
use Rattle.esto_query.proofs.IndexLemmas.{AreListed-none, AreListed-next}
use Rattle.esto_query.proofs.index.add_facts.Goals as goal

pub facts-init : goal.facts-init
facts-init c = AreListed-none c.args.facts.now c.args.columns.now c.args.names.now c.args.terms.now.items

pub facts-preserved : goal.facts-preserved
facts-preserved c =
    AreListed-next c.args.facts.now c.args.columns.now c.args.names.now c.index-facts-place.result c.facts.place c.facts.terms.items
    c.add_terms.new.terms.items (slice_get_read c.args.facts.now _ c.facts.place _ refl c.facts-test.true c.index-facts-place.is)
    c.in_ok-add_terms.ensures c.facts.invariant

pub returns : goal.returns
returns c = subst (λ n. AreListed c.args.facts.now c.args.columns.now c.args.names.now n c.facts.terms.items) (omega arith) c.facts.invariant
