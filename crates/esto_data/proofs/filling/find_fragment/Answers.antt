use Rattle.std.proofs.Common.{sym, ◌∙◌}
use Rattle.std.proofs.lemmas.Bool.{false≢true}
use Rattle.esto_data.proofs.FindLemmas.{found, none_found, not_yet}
use Rattle.esto_data.proofs.filling.find_fragment.Goals as goal

pub fragments-preserved : goal.fragments-preserved
fragments-preserved c =
    not_yet c.args.catalogue.now c.args.name.now c.items-fragment-items.result.now c.items-fragment-items.ensures c.fragments.number
    c.fragment-item.result c.fragments-test.true c.fragment-item.is c.fragments.invariant
    (λ same. false≢true (sym c.if-has_name.false ∙ c.has_name.ensures.1 same))

pub returns-then-has_name : goal.returns-then-has_name
returns-then-has_name c =
    found c.args.catalogue.now c.args.name.now c.items-fragment-items.result.now c.items-fragment-items.ensures c.fragments.number
    c.fragment-item.result c.fragments-test.true c.fragment-item.is c.fragments.invariant (c.has_name.ensures.0 c.if-has_name.true)

pub returns : goal.returns
returns c =
    none_found c.args.catalogue.now c.args.name.now c.items-fragment-items.result.now c.items-fragment-items.ensures c.fragments.number
    c.fragments-test.false c.fragments.invariant c.in_ok-name.name c.in_ok-name.ensures
