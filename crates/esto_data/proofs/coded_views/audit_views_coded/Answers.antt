use Rattle.std.proofs.Common.{List, slice_get, length, sym, ap, ◌∙◌, subst, refl, arith}
use Rattle.std.proofs.lemmas.Option.{slice_get_read}
use Rattle.esto_columns.proofs.CodingLemmas.{grows_on}
use Rattle.esto_query.specs.Making.{query_of}
use Rattle.esto_semantics.specs.Queries.{IsAnswer}
use Rattle.esto_term.proofs.ListLemmas.{holds_more, map_at}
use Rattle.esto_views.specs.Fragments.{views_of}
use Rattle.esto_views.specs.declared.fragments.FragmentDef.{FragmentDef}
use Rattle.esto_fill.specs.Databases.{database_of}
use Rattle.esto_fill.specs.Texts.{HaveTextsOnly, JudgesRows}
use Rattle.esto_data.proofs.CodedRowLemmas.{stays_itself, stays_on}
use Rattle.esto_fill.proofs.TextLemmas.{all_texts, first_view, views_before}
use Rattle.esto_data.proofs.coded_views.audit_views_coded.Goals as goal

pub fragments-init : goal.fragments-init
fragments-init c = (stays_itself c.args.coded.now, λ loaded its place fragment below at. absurd (omega (arith, below)))

pub returns-in-Err-clause-views : goal.returns-in-Err-clause-views
returns-in-Err-clause-views c loaded its =
    let fragments = c.args.catalogue.now.fragments in
    let items = c.items-fragment-items.result.now in
    let database = database_of loaded.facts in
    let fragment = c.fragment-item.result in
    let at = slice_get_read items (length items) c.fragments.fragment-index fragment refl c.fragments-test.true c.fragment-item.is in
    let there = sym (ap (λ (those : List FragmentDef). slice_get those c.fragments.fragment-index) c.items-fragment-items.ensures) ∙ at in
    first_view (views_of fragments) database c.fragments.fragment-index (query_of fragment.view) c.in-Err.error
    (map_at (λ (its : FragmentDef). query_of its.view) fragments c.fragments.fragment-index fragment there)
    (subst (JudgesRows (IsAnswer (query_of fragment.view) database)) c.in-Err.is
    (c.judge_view.ensures.rows loaded (c.fragments.invariant.0.kept loaded its)))
    (views_before fragments items database c.items-fragment-items.ensures c.fragments.fragment-index (c.fragments.invariant.1 loaded its))

pub fragments-preserved : goal.fragments-preserved
fragments-preserved c = (
  stays_on c.args.coded.now c.fragments.coded c.judge_view.new.coded c.fragments.invariant.0 c.judge_view.ensures.stays,
  λ loaded its.
      holds_more (λ _ (fragment : FragmentDef). HaveTextsOnly (IsAnswer (query_of fragment.view) (database_of loaded.facts))) c.items-fragment-items.result.now
      c.fragments.fragment-index c.fragment-item.result c.fragments-test.true c.fragment-item.is (c.fragments.invariant.1 loaded its)
      (c.in-Ok.ensures.rows loaded (c.fragments.invariant.0.kept loaded its)),
)

pub returns-clause-views : goal.returns-clause-views
returns-clause-views c loaded its =
    all_texts c.args.catalogue.now.fragments c.items-fragment-items.result.now (database_of loaded.facts) c.items-fragment-items.ensures
    c.fragments.fragment-index c.fragments-test.false (c.fragments.invariant.1 loaded its)

pub returns-in-Err-clause-kept : goal.returns-in-Err-clause-kept
returns-in-Err-clause-kept c loaded its = c.judge_view.ensures.stays.kept loaded (c.fragments.invariant.0.kept loaded its)

pub returns-in-Err-clause-grown : goal.returns-in-Err-clause-grown
returns-in-Err-clause-grown c = grows_on _ _ _ c.fragments.invariant.0.grown c.judge_view.ensures.stays.grown

pub returns-clause-kept : goal.returns-clause-kept
returns-clause-kept c = c.fragments.invariant.0.kept

pub returns-clause-grown : goal.returns-clause-grown
returns-clause-grown c = c.fragments.invariant.0.grown
