-- The item that is chosen.
use Rattle.std.proofs.Common.{◌≡◌, ◌<◌, ◌≤◌, ◌-◌, ℕ, List, [], length, Option, Some, None, refl, sym, ap, subst, ◌∙◌, arith}
use Rattle.std.proofs.lemmas.List.{length-map}
use Rattle.std.proofs.lemmas.Option.{same_Some, none-some}
use Rattle.esto_course.specs.Course.{Stops, judges}
use Rattle.esto_course.specs.Course.Stops.{refused}
use Rattle.esto_course.proofs.Determined.{judges_agree}
use Rattle.esto_list.specs.Items.{totals_of}
use Rattle.esto_list.specs.declared.listing.Listed.{Listed}
use Rattle.esto_semantics.specs.Access.{IsStatedOrder}
use Rattle.esto_semantics.specs.Listed.{IsPick}
use Rattle.esto_semantics.specs.ListedLaws.{PickIsOne}
use Rattle.esto_term.proofs.ListLemmas.{Contains-at, Contains-map}
use Rattle.esto_term.proofs.PlaceLemmas.{all_at}
use Rattle.esto_views.specs.Fragments.{patterns_of}
use Rattle.esto_views.specs.Plans.{plan_query}
use Rattle.esto_status.specs.Answers.{IsWant, IsCaused}
use Rattle.esto_status.specs.declared.status.Status.{Status}
use Rattle.esto_status.specs.declared.status.Status.TheVariants.{NoRewriting, NoSuchNumber}
use Rattle.esto_rewriting.specs.Alike.{ChoiceIsOne}
use Rattle.esto_rewriting.specs.PlannedLaws.{ItemIsListed, PlaceIsWithin}
use Rattle.esto_rewriting.specs.Choice.{HasNoPlace, IsPlace}
use Rattle.esto_rewriting.specs.Choice.HasNoPlace.{is_empty, is_above}
use Rattle.esto_rewriting.specs.Planning.{chooses}

module _ (items : List Listed) (number : Option ℕ) where
  pub none_listed : items ≡ [] → Stops IsWant (IsCaused ⊥) (chooses items number) NoRewriting
  unfolding judges
  none_listed none = refused (record { cause = tt }) (is_empty none refl)

  pub picked : (pick : ℕ) → number ≡ None → IsPick (totals_of items) pick → (chooses items number).goes pick
  unfolding judges
  picked pick none is = subst (λ it. IsPlace items it pick) (sym none) is

  module _ (pick : ℕ) (is_pick : IsPick (totals_of items) pick) where
    some_listed : 0 < length items
    some_listed = omega (arith, is_pick.there, length-map items (λ item. item.weight))

    pub above : (asked listed : ℕ) → number ≡ Some asked → listed ≡ length items → listed < asked
        → Stops IsWant (IsCaused ⊥) (chooses items number) (NoSuchNumber asked listed)
    unfolding judges
    above asked listed is length_is less = refused (record { cause = tt })
        (is_above asked is (λ none. omega (arith, some_listed, ap length none)) (omega (arith, less, length_is)) (ap (NoSuchNumber asked) length_is))

    pub numbered : (asked place : ℕ) → number ≡ Some asked → asked ≤ length items → place ≡ asked - 1 → (chooses items number).goes place
    unfolding judges
    numbered asked place is le place_is = subst (λ it. IsPlace items it place) (sym is) (place_is, omega (arith, some_listed, le, place_is))

-- ---- the chosen item

pub place_within : PlaceIsWithin
place_within items None place is = omega (arith, is.there, length-map items (λ item. item.weight))
place_within items (Some number) place is = is.1

pub item_listed : ItemIsListed
item_listed catalogue query plan items place item list is = record {
  set = (list.sets.exact item.set).0 (Contains-map (λ it. it.set) items item (Contains-at items place item is));
  order = all_at (λ it. IsStatedOrder (patterns_of catalogue.fragments) (plan_query plan).body it.set it.order) items list.orders place item is;
}

-- ---- the choice is one

-- a list has one place to choose
one_place : PickIsOne → (items : List Listed) (number : Option ℕ) (place other : ℕ) → IsPlace items number place → IsPlace items number other
    → place ≡ other
one_place one items None place other is is_other = one (totals_of items) place other is is_other
one_place one items (Some number) place other is is_other = is.0 ∙ sym is_other.0

-- a list with a place to choose has no cause for none
no_cause : (items : List Listed) (number : Option ℕ) (place : ℕ) (refusal : Status) → IsPlace items number place → HasNoPlace items number refusal → ⊥
no_cause items None place refusal is (is_empty none is_refusal) =
    omega (arith, is.there, length-map items (λ item. item.weight), ap length none)
no_cause items None place refusal is (is_above asked is_asked some less is_refusal) = none-some asked is_asked
no_cause items (Some number) place refusal is (is_empty none is_refusal) = omega (arith, is.1, ap length none)
no_cause items (Some number) place refusal is (is_above asked is_asked some less is_refusal) =
    let same : number ≡ asked = same_Some number asked is_asked in omega (arith, is.0, is.1, less, same)

-- and a list has one cause
one_cause : (items : List Listed) (number : Option ℕ) (refusal other : Status) → HasNoPlace items number refusal → HasNoPlace items number other
    → refusal ≡ other
one_cause items number refusal other (is_empty none is) (is_empty none' is') = is ∙ sym is'
one_cause items number refusal other (is_empty none is) (is_above asked is_asked some less is') = absurd (some none)
one_cause items number refusal other (is_above asked is_asked some less is) (is_empty none is') = absurd (some none)
one_cause items number refusal other (is_above asked is_asked some less is) (is_above asked' is_asked' some' less' is') =
    let same : asked ≡ asked' = same_Some asked asked' (sym is_asked ∙ is_asked') in
    is ∙ ap (λ (it : ℕ). NoSuchNumber it (length items)) same ∙ sym is'

pub choice_one : PickIsOne → ChoiceIsOne
choice_one one items number = judges_agree _ _ _ _ _ _ (one_place one items number)
    (λ said other caused other_caused here there. one_cause items number said other here there)
    (λ place said caused here there. no_cause items number place said here there)
    (λ place said caused here there. no_cause items number place said here there)
