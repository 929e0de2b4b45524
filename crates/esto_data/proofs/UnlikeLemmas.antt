-- The first fragment that has other rows than its view, and its difference.
use Rattle.std.proofs.Common.{◌≡◌, ℕ, List, map, None, Some, slice_get, Contains, refl, sym, subst, arith}
use Rattle.esto_constraint.specs.Constraints.{rules_of}
use Rattle.esto_constraint.specs.EncodingRules.{written}
use Rattle.esto_fill.specs.Databases.{database_of}
use Rattle.esto_fill.specs.Differences.{Audits}
use Rattle.esto_fill.specs.Judging.{ArePassed, JudgesFragment, JudgesFragments}
use Rattle.esto_fill.specs.Texts.{HaveTextsOnly}
use Rattle.esto_fill.specs.Trials.{IsEnoughFor}
use Rattle.esto_fill.proofs.DifferenceLemmas.{AreOneBelow, audited, first_apart}
use Rattle.esto_fill.proofs.TrialLemmas.{fragments_all, rules_met}
use Rattle.esto_mapping.specs.declared.catalogue.Catalogue.{Catalogue}
use Rattle.esto_ports.specs.declared.difference.Difference.{Difference}
use Rattle.esto_query.specs.Making.{query_of}
use Rattle.esto_semantics.specs.Queries.{IsAnswer}
use Rattle.esto_semantics.specs.Rules.{AreRules, Rule}
use Rattle.esto_semantics.specs.Standing.{RulesStand}
use Rattle.esto_semantics.specs.declared.fact.Fact.{Fact}
use Rattle.esto_semantics.specs.declared.fact.Value.TheVariants.{Text}
use Rattle.esto_semantics.proofs.ValueLemmas.{same_texts}
use Rattle.esto_steps.specs.Rows.{IsRowOf, held_by}
use Rattle.esto_stores.specs.Rows.{Row}
use Rattle.esto_term.proofs.ListLemmas.{Contains-at, map_at, thing_at}
use Rattle.esto_term.specs.declared.term.Term.{Term}
use Rattle.esto_views.specs.Fragments.{views_of}
use Rattle.esto_views.specs.declared.fragments.FragmentDef.{FragmentDef}
use Rattle.esto_data.specs.Disagreeing.{IsFirstUnlike}
use Rattle.esto_data.specs.Fill.{names_of}
use Rattle.esto_data.proofs.CodedViewLemmas.{holds_from}

-- its view is one of the views
pub view_there : (fragments : List FragmentDef) (number : ℕ) (fragment : FragmentDef) → slice_get fragments number ≡ Some fragment
    → Contains (views_of fragments) (query_of fragment.view)
view_there fragments number fragment at =
    Contains-at (views_of fragments) number (query_of fragment.view) (map_at (λ (its : FragmentDef). query_of its.view) fragments number fragment at)

module _ (fragments : List FragmentDef) (facts : List (Fact Term)) (lists : List (List Row)) (number : ℕ)
    (first : IsFirstUnlike (views_of fragments) facts lists number) where
  -- those before it have the rows of their views
  all_before : AreOneBelow fragments (database_of facts) lists number
  all_before earlier below row = (
    (λ (view, is, answer).
        let found = (first.before earlier below view is (map Text row)).0 answer in
        subst (Contains (held_by lists earlier)) (sym (same_texts row found.0 found.2)) found.1),
    (λ inside.
        let view = thing_at (views_of fragments) earlier (omega (arith, below, first.within)) in
        (view.0, view.1, (first.before earlier below view.0 view.1 (map Text row)).1 (row, inside, refl))),
  )

  module _ (fragment : FragmentDef) (list : List Row) (at : slice_get fragments number ≡ Some fragment) (there : slice_get lists number ≡ Some list) where
    -- it has a row that is in one of the two alone
    pub never_none : HaveTextsOnly (IsAnswer (query_of fragment.view) (database_of facts))
        → JudgesFragment fragment.name (IsAnswer (query_of fragment.view) (database_of facts)) list None → ⊥
    never_none texts same = first.unlike (holds_from fragments lists (database_of facts) number fragment list at there (λ values. (
      (λ answer.
          let found = texts values answer in
          (found.0, (same found.0).0 (subst (IsAnswer (query_of fragment.view) (database_of facts)) found.1 answer), found.1)),
      (λ (row, inside, is). subst (IsAnswer (query_of fragment.view) (database_of facts)) (sym is) ((same row).1 inside)),
    )))

    -- what judges it judges all fragments
    pub first_judges : (difference : Difference)
        → JudgesFragment fragment.name (IsAnswer (query_of fragment.view) (database_of facts)) list (Some difference)
        → JudgesFragments (names_of fragments) (views_of fragments) (database_of facts) lists (Some difference)
    first_judges difference judged = first_apart fragments (database_of facts) lists number fragment list at there difference judged all_before

-- where each rule is passed, the first difference of the fragments is that of all
pub first_of_all : (stand : RulesStand) (catalogue : Catalogue) (laws : List Rule) (facts some : List (Fact Term)) → IsEnoughFor catalogue laws facts some
    → AreRules (rules_of catalogue.rules) → ArePassed laws some (rules_of catalogue.rules) → (lists : List (List Row)) (difference : Difference)
    → JudgesFragments (names_of catalogue.fragments) (views_of catalogue.fragments) (database_of some) lists (Some difference)
    → Audits (rules_of catalogue.rules) (map written catalogue.rules) (names_of catalogue.fragments) (views_of catalogue.fragments) facts
    (IsRowOf (held_by lists)) (Some difference)
first_of_all stand catalogue laws facts some enough are passed lists difference judged =
    let views = views_of catalogue.fragments in
    let names = names_of catalogue.fragments in
    audited (rules_of catalogue.rules) (map written catalogue.rules) names views facts lists (Some difference)
    (rules_met stand catalogue.rules laws views facts some enough are passed)
    (fragments_all (rules_of catalogue.rules) laws views facts some enough names lists (Some difference) judged)
