use Rattle.std.proofs.Common.{◌≤◌, ◌++◌, List, length, map, refl, sym, ap, ◌∙◌, subst, arith}
use Rattle.std.proofs.lemmas.List.{append-nil, length-map, take_all}
use Rattle.std.proofs.lemmas.Option.{slice_get_read}
use Rattle.esto_semantics.specs.Listed.{chosen}
use Rattle.esto_term.proofs.ListLemmas.{map_at}
use Rattle.esto_views.specs.Plans.{fact_of}
use Rattle.esto_views.specs.declared.plan.PlanAtom.{PlanAtom}
use Rattle.esto_run.specs.Used.{AreFirsts, AreUsed, fragments_of}
use Rattle.esto_run.proofs.UsedLemmas.{AreUsedBelow, use_more, all_used, none_used, firsts_step, nothing_chosen}
use Rattle.esto_run.proofs.used.add_uses.Goals as goal

pub atoms-init : goal.atoms-init
atoms-init c = (
  λ none. subst (AreUsedBelow (map fact_of c.items-atom-items.result.now) c.args.set.now 0) (sym none)
      (none_used (map fact_of c.items-atom-items.result.now) c.args.set.now),
  λ numbers are. subst (λ them. AreFirsts them c.args.fragments.now)
      (sym (ap (λ them. numbers ++ fragments_of them) (nothing_chosen c.args.set.now) ∙ append-nil numbers)) are,
)

pub atoms-preserved : goal.atoms-preserved
atoms-preserved c =
    let items = c.items-atom-items.result.now in
    let at = map_at fact_of items c.atoms.number c.atom-item.result
    (slice_get_read items (length items) c.atoms.number c.atom-item.result refl c.atoms-test.true c.atom-item.is) in (
      (λ none. use_more (map fact_of items) c.args.set.now c.atoms.number (fact_of c.atom-item.result) c.atoms.fragments c.add_use.new.fragments
          at c.in_ok-add_use.ensures (c.atoms.invariant.0 none)),
      (λ numbers are. firsts_step c.args.set.now (map fact_of items) c.atoms.number (fact_of c.atom-item.result) numbers c.atoms.fragments
          c.add_use.new.fragments at c.in_ok-add_use.ensures (c.atoms.invariant.1 numbers are)),
    )

pub returns-clause-used : goal.returns-clause-used
returns-clause-used c = λ none.
    let items = c.items-atom-items.result.now in
    let long = length-map items fact_of in
    let past = c.atoms-test.false in
    subst (λ (them : List PlanAtom). AreUsed (map fact_of them) c.args.set.now c.atoms.fragments) c.items-atom-items.ensures
    (all_used (map fact_of items) c.args.set.now c.atoms.number c.atoms.fragments
    (let all : length (map fact_of items) ≤ c.atoms.number = omega (arith, long, past) in all) (c.atoms.invariant.0 none))

pub returns-clause-firsts : goal.returns-clause-firsts
returns-clause-firsts c = λ numbers are.
    let items = c.items-atom-items.result.now in
    let long = length-map items fact_of in
    let past = c.atoms-test.false in
    subst (λ (them : List PlanAtom). AreFirsts (numbers ++ fragments_of (chosen c.args.set.now (map fact_of them))) c.atoms.fragments)
    c.items-atom-items.ensures
    (subst (λ them. AreFirsts (numbers ++ fragments_of (chosen c.args.set.now them)) c.atoms.fragments)
    (take_all c.atoms.number (map fact_of items) (let all : length (map fact_of items) ≤ c.atoms.number = omega (arith, long, past) in all))
    (c.atoms.invariant.1 numbers are))
