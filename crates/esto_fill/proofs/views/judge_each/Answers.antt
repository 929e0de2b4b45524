use Rattle.std.proofs.Common.{List, slice_get, length, sym, ap, ◌∙◌, subst, refl}
use Rattle.std.proofs.lemmas.Option.{slice_get_read}
use Rattle.esto_query.specs.Making.{query_of}
use Rattle.esto_semantics.specs.Queries.{IsAnswer}
use Rattle.esto_term.proofs.ListLemmas.{holds_more, map_at}
use Rattle.esto_views.specs.Fragments.{views_of}
use Rattle.esto_views.specs.declared.fragments.FragmentDef.{FragmentDef}
use Rattle.esto_fill.specs.Databases.{database_of}
use Rattle.esto_fill.specs.Texts.{HaveTextsOnly, JudgesRows}
use Rattle.esto_fill.proofs.TextLemmas.{all_texts, first_view, views_before}
use Rattle.esto_fill.proofs.views.judge_each.Goals as goal

pub returns-in-Err : goal.returns-in-Err
returns-in-Err c =
    let fragments = c.args.fragments.now in
    let items = c.items-fragment-items.result.now in
    let database = database_of c.args.facts.now in
    let fragment = c.fragment-item.result in
    let at = slice_get_read items (length items) c.fragments.fragment-index fragment refl c.fragments-test.true c.fragment-item.is in
    let there = sym (ap (λ (those : List FragmentDef). slice_get those c.fragments.fragment-index) c.items-fragment-items.ensures) ∙ at in
    first_view (views_of fragments) database c.fragments.fragment-index (query_of fragment.view) c.in-Err.error
    (map_at (λ (its : FragmentDef). query_of its.view) fragments c.fragments.fragment-index fragment there)
    (subst (JudgesRows (IsAnswer (query_of fragment.view) database)) c.in-Err.is c.judge_view.ensures)
    (views_before fragments items database c.items-fragment-items.ensures c.fragments.fragment-index c.fragments.invariant)

pub fragments-preserved : goal.fragments-preserved
fragments-preserved c =
    holds_more (λ _ (fragment : FragmentDef). HaveTextsOnly (IsAnswer (query_of fragment.view) (database_of c.args.facts.now)))
    c.items-fragment-items.result.now c.fragments.fragment-index c.fragment-item.result c.fragments-test.true c.fragment-item.is
    c.fragments.invariant c.in-Ok.ensures

pub returns : goal.returns
returns c =
    all_texts c.args.fragments.now c.items-fragment-items.result.now (database_of c.args.facts.now) c.items-fragment-items.ensures
    c.fragments.fragment-index c.fragments-test.false c.fragments.invariant
