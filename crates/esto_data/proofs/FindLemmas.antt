-- The fragment of a name.
use Rattle.std.proofs.Common.{◌≡◌, ◌≢◌, ◌<◌, ◌≤◌, ◌+◌, ℕ, List, length, get_or, slice_get, Contains, Some, ap, subst, ◌∙◌}
use Rattle.std.proofs.lemmas.Option.{slice_get_within}
use Rattle.esto_mapping.specs.declared.catalogue.Catalogue.{Catalogue}
use Rattle.esto_course.specs.Course.{Stops, judges}
use Rattle.esto_course.specs.Course.Stops.{refused}
use Rattle.esto_term.proofs.ListLemmas.{Contains-map_from, HoldsBelow, holds_all_in, holds_more_in, map_at, map_at-from, place-from_Contains}
use Rattle.esto_term.proofs.PlaceLemmas.{item_at}
use Rattle.esto_views.specs.declared.fragments.FragmentDef.{FragmentDef}
use Rattle.esto_status.specs.Answers.{IsCaused, IsWant}
use Rattle.esto_status.specs.declared.status.Status.TheVariants as status
use Rattle.esto_data.specs.Fill.{finds_fragment, names_of}

module _ (catalogue : Catalogue) (name : List ℕ) (items : List FragmentDef) (are : items ≡ catalogue.fragments) (number : ℕ) where
  -- the first fragments, so many, have another name
  abbrev pub OtherNames : ℕ → Type 0
  OtherNames count = HoldsBelow (λ _ (fragment : FragmentDef). fragment.name ≢ name) catalogue.fragments count

  module _ (fragment : FragmentDef) (below : number < length items) (is : fragment ≡ get_or items number fragment) where
    pub not_yet : OtherNames number → fragment.name ≢ name → OtherNames (number + 1)
    not_yet others other = holds_more_in (λ _ (it : FragmentDef). it.name ≢ name) catalogue.fragments items are number fragment below is others other

    pub found : OtherNames number → fragment.name ≡ name → (finds_fragment catalogue name).goes number
    unfolding judges
    found others same = record {
      there = map_at (λ (it : FragmentDef). it.name) catalogue.fragments number fragment
          (subst (λ (it : List FragmentDef). slice_get it number ≡ Some fragment) are (item_at items number fragment below is))
          ∙ ap Some same;
      first = λ earlier less at.
          let own = map_at-from (λ (it : FragmentDef). it.name) catalogue.fragments earlier name at in others earlier own.0 less own.1 own.2;
    }

  pub none_found : length items ≤ number → OtherNames number → (said : List ℕ) → said ≡ name
      → Stops IsWant (IsCaused ⊥) (finds_fragment catalogue name) (status.NoSuchFragment said)
  unfolding judges
  none_found le others said is = refused (record { cause = tt }) (none, ap status.NoSuchFragment is)
    where
      none : ¬ (Contains (names_of catalogue.fragments) name)
      none inside =
          let own = Contains-map_from (λ (it : FragmentDef). it.name) catalogue.fragments name inside in
          let at = place-from_Contains catalogue.fragments own.0 own.1 in
          holds_all_in (λ _ (it : FragmentDef). it.name ≢ name) catalogue.fragments items are number le others at.0 own.0 at.1 own.2

-- the fragment that was found is there
pub found_within : (catalogue : Catalogue) (name : List ℕ) (number : ℕ) → (finds_fragment catalogue name).goes number → number < length catalogue.fragments
unfolding judges
found_within catalogue name number first =
    let own = map_at-from (λ (it : FragmentDef). it.name) catalogue.fragments number name first.there in
    slice_get_within catalogue.fragments number own.0 own.1
