use Rattle.std.proofs.Common.{◌++◌, ◌∷◌, [], ap, ◌∙◌, map}
use Rattle.std.proofs.lemmas.List.{take_all}
use Rattle.esto_columns.specs.CodedRows.{CodedRows}
use Rattle.esto_semantics.proofs.SubstitutionLemmas.{map_more}
use Rattle.esto_steps.specs.Planned.{inputs_of}
use Rattle.esto_run.specs.Stored.{stored_none}
use Rattle.esto_run.proofs.HeldLemmas.{none_are_empty, none_are_unopened}
use Rattle.esto_run.proofs.OpenedLemmas.{rows_for_none}
use Rattle.esto_run.proofs.opened.no_rows.Goals as goal

pub fragments-init : goal.fragments-init
fragments-init c = c.new-stored.ensures

pub fragments-preserved : goal.fragments-preserved
fragments-preserved c =
    let fragment = c.fragment-item.result in
    map_more stored_none c.items-fragment-items.result.now c.fragments.fragment-index fragment c.fragments.stored c.push.new.self c.fragments-test.true
    c.fragment-item.is
    (c.in_ok-push.ensures.ok ∙ ap (λ it. c.fragments.stored ++ it ∷ []) (c.in_ok-none.ensures
    ∙ ap (λ (them : CodedRows). record { rows = them; ways = map inputs_of fragment.access })
    (c.in_ok-rows.ensures ∙ (λ i. record { arity = c.len.ensures i; rows = [] })))) c.fragments.invariant

pub of_none-requires : goal.of_none-requires
of_none-requires c = none_are_empty c.args.fragments.now c.fragments.stored
    (c.fragments.invariant ∙ ap (map stored_none) (take_all c.fragments.fragment-index c.items-fragment-items.result.now c.fragments-test.false
    ∙ c.items-fragment-items.ensures))

pub returns-clause-none : goal.returns-clause-none
returns-clause-none c = c.of_none.ensures ∙ none_are_unopened c.args.fragments.now c.fragments.stored
    (c.fragments.invariant ∙ ap (map stored_none) (take_all c.fragments.fragment-index c.items-fragment-items.result.now c.fragments-test.false
    ∙ c.items-fragment-items.ensures))

pub returns-clause-rows : goal.returns-clause-rows
returns-clause-rows c = rows_for_none c.args.fragments.now c.of_none.result (returns-clause-none c)
