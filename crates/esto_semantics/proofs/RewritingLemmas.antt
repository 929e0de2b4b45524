-- Executable queries map onto executable sets of a plan's atoms, and executable rewritings onto sets that are rewritings.
use Rattle.std.proofs.Common.{◌≡◌, ◌≢◌, ◌↔◌, inl, inr, ℕ, ◌<◌, Bool, true, false, List, [], ◌∷◌, map, length, replicate, slice_get, Contains, Option, Some}
use Rattle.std.proofs.Common.{None, refl, sym, ap, ◌∙◌, subst}
use Rattle.std.proofs.lemmas.List.{get_or-replicate, length-map}
use Rattle.std.proofs.lemmas.Option.{slice_get_within}
use Rattle.esto_term.specs.declared.term.Term.{Term}
use Rattle.esto_term.specs.declared.term.Term.TheVariants.{Const}
use Rattle.esto_semantics.specs.Access.{Patterns, IsOrder, IsExecutable}
use Rattle.esto_semantics.specs.Containment.{IsContained, IsSatisfiable}
use Rattle.esto_semantics.specs.Facts.{image, Mentions}
use Rattle.esto_semantics.specs.Instances.{MapsTo}
use Rattle.esto_semantics.specs.Listed.{chosen, candidate, HasCandidate, IsSafe, IsRewriting, IsExecutableRewriting}
use Rattle.esto_semantics.specs.Maps.{AreFlat, Keeps, Sends}
use Rattle.esto_semantics.specs.Plans.{IsUniversalPlan}
use Rattle.esto_semantics.specs.PlanLaws.{QueriesMapOntoExecutableSets}
use Rattle.esto_semantics.specs.Queries.{ConjunctiveQuery, IsQuery}
use Rattle.esto_semantics.specs.Rewritings.{IsPlanFor, MapsOnto}
use Rattle.esto_semantics.specs.Rules.{Rule}
use Rattle.esto_term.specs.Sets.{Has}
use Rattle.esto_semantics.specs.Views.{IsFragmentAnswer}
use Rattle.esto_semantics.specs.declared.fact.Fact.{Fact}
use Rattle.esto_semantics.proofs.AnswerLemmas.{contained-in_mapped}
use Rattle.esto_semantics.proofs.CandidateLemmas.{candidate-equivalent}
use Rattle.esto_semantics.proofs.FactLemmas.{Mentions-sent}
use Rattle.esto_semantics.proofs.PlaceLemmas.{chosen-from_Has, Has-from_chosen}
use Rattle.esto_term.proofs.SetLemmas.{passing, length-passing, passing-Has}
use Rattle.esto_semantics.proofs.ScheduleLemmas.{has_number, has_number-Decides, once_each, atom_in_order, IsOrder-moved}
use Rattle.esto_term.proofs.ListLemmas.{Contains-at, Contains-map, Contains-map_from, place-from_Contains}

module _ (patterns : Patterns) (other plan : ConjunctiveQuery) (m : Term → Term) (keeps : Keeps Const m) (sends : Sends m other.body plan.body) where
  -- a place of the plan's atoms at which the image of the atom of a number stands
  pub place_of : (number : ℕ) → (place : ℕ) × ((atom : Fact Term) → slice_get other.body number ≡ Some atom → slice_get plan.body place ≡ Some (image m atom))
  place_of number = by (slice_get other.body number) refl
    where
      by : (found : Option (Fact Term)) → slice_get other.body number ≡ found
          → (place : ℕ) × ((atom : Fact Term) → slice_get other.body number ≡ Some atom → slice_get plan.body place ≡ Some (image m atom))
      by (Some atom) told =
          let at = place-from_Contains plan.body (image m atom) (sends atom (Contains-at other.body number atom told)) in
          (at.0, λ same same_told. let is : atom ≡ same = cc in at.1 ∙ ap (λ (it : Fact Term). Some (image m it)) is)
      by None told = (0, λ atom at. absurd (cc))

  module _ (order : List ℕ) (is_order : IsOrder patterns other.body (replicate (length other.body) true) order) where
    -- the places of the images, in the order of the other query's atoms
    abbrev places : List ℕ
    places = map (λ number. (place_of number).0) order

    abbrev pub image_set : List Bool
    image_set = passing (has_number places) (length plan.body)

    in_order : (number : ℕ) (atom : Fact Term) → slice_get other.body number ≡ Some atom → Contains order number
    in_order number atom at = (is_order.names number).1 (get_or-replicate (length other.body) number true false (slice_get_within other.body number atom at))

    image_at : (number : ℕ) → Contains order number
        → (atom : Fact Term) × (slice_get other.body number ≡ Some atom) × (slice_get plan.body (place_of number).0 ≡ Some (image m atom))
    image_at number inside = let at = atom_in_order patterns other.body (replicate (length other.body) true) order is_order number inside in
        (at.0, at.1, (place_of number).1 at.0 at.1)

    -- the set has exactly these places
    places_are : (number : ℕ) → Contains places number ↔ Has image_set number
    places_are number = (
      (λ inside.
          let from = Contains-map_from (λ it. (place_of it).0) order number inside in
          let at = image_at from.0 from.1 in
          let below : (place_of from.0).0 < length plan.body = slice_get_within plan.body (place_of from.0).0 (image m at.0) at.2 in
          (passing-Has (has_number places) (length plan.body) number).1
          (subst (λ it. it < length plan.body) from.2 below, (has_number-Decides places number).1 inside)),
      (λ has. (has_number-Decides places number).0 ((passing-Has (has_number places) (length plan.body) number).0 has).1),
    )

    -- its atoms are exactly the images
    image_set-onto : (atom : Fact Term) → Contains (chosen image_set plan.body) atom ↔ Contains (map (image m) other.body) atom
    image_set-onto atom = (
      (λ inside.
          let found = Has-from_chosen image_set plan.body atom inside in
          let from = Contains-map_from (λ it. (place_of it).0) order found.0 ((places_are found.0).1 found.1) in
          let own = image_at from.0 from.1 in
          let at : slice_get plan.body (place_of from.0).0 ≡ Some atom = ap (slice_get plan.body) from.2 ∙ found.2 in
          let own_at : slice_get plan.body (place_of from.0).0 ≡ Some (image m own.0) = own.2 in
          let same : image m own.0 ≡ atom = cc in
          subst (Contains (map (image m) other.body)) same (Contains-map (image m) other.body own.0 (Contains-at other.body from.0 own.0 own.1))),
      (λ inside.
          let from = Contains-map_from (image m) other.body atom inside in
          let at = place-from_Contains other.body from.0 from.1 in
          chosen-from_Has image_set plan.body (place_of at.0).0 atom
          ((places_are (place_of at.0).0).0 (Contains-map (λ it. (place_of it).0) order at.0 (in_order at.0 from.0 at.1)))
          ((place_of at.0).1 from.0 at.1 ∙ ap Some from.2)),
    )

    image_set-IsExecutable : IsExecutable patterns plan.body image_set
    image_set-IsExecutable = (
      once_each [] places,
      IsOrder-moved patterns other.body plan.body (replicate (length other.body) true) m keeps (λ number. (place_of number).0)
          (λ number atom has at. (place_of number).1 atom at) order is_order
          image_set (length-passing (has_number places) (length plan.body)) places_are,
    )

    -- each of the other query's atoms gives the set one
    image_set-has : (number : ℕ) (atom : Fact Term) → slice_get other.body number ≡ Some atom → Has image_set (place_of number).0
    image_set-has number atom at = (places_are (place_of number).0).0 (Contains-map (λ it. (place_of it).0) order number (in_order number atom at))

map-nil : {X Y : Type 0} (m : X → Y) (things : List X) → map m things ≡ [] → things ≡ []
map-nil m [] is = refl
map-nil m (first ∷ rest) is = absurd (cc)

first_of : {X : Type 0} (things : List X) → things ≢ [] → (first : X) × (slice_get things 0 ≡ Some first)
first_of [] some = absurd (some refl)
first_of (first ∷ rest) some = (first, refl)

-- ---- an executable query that maps to a plan

module _ (patterns : Patterns) (plan other : ConjunctiveQuery) (is_query : IsQuery other) (order : List ℕ)
    (is_order : IsOrder patterns other.body (replicate (length other.body) true) order) (maps : MapsTo other plan) where
  abbrev set : List Bool
  set = image_set patterns other plan maps.0 maps.1 maps.2 order is_order

  set-onto : (atom : Fact Term) → Contains (chosen set plan.body) atom ↔ Contains (map (image maps.0) other.body) atom
  set-onto = image_set-onto patterns other plan maps.0 maps.1 maps.2 order is_order

  sends_to_set : Sends maps.0 other.body (chosen set plan.body)
  sends_to_set atom inside = (set-onto (image maps.0 atom)).1 (Contains-map (image maps.0) other.body atom inside)

  set-HasCandidate : HasCandidate plan set
  set-HasCandidate =
      let first = first_of other.body is_query.has_body in record {
        over = length-passing _ (length plan.body);
        some = (_, image_set-has patterns other plan maps.0 maps.1 maps.2 order is_order 0 first.0 first.1);
      }

  set-IsSafe : IsSafe plan set
  set-IsSafe term inside =
      let from = Contains-map_from maps.0 other.head term (subst (λ head. Contains head term) (sym maps.3) inside) in
      elim (is_query.safe from.0 from.1) [
        | inl (text, is) ↦ inl (text, sym from.2 ∙ ap maps.0 is ∙ maps.1 text)
        | inr mentioned ↦ inr (subst (Mentions (chosen set plan.body)) from.2
            (Mentions-sent maps.0 other.body (chosen set plan.body) from.0 sends_to_set mentioned))
      ]

  pub maps_onto_executable : (set : List Bool) × MapsOnto other plan set × HasCandidate plan set × IsSafe plan set × IsExecutable patterns plan.body set
  maps_onto_executable = (
    set,
    record { m = maps.0; keeps = maps.1; head = maps.3; onto = set-onto },
    set-HasCandidate,
    set-IsSafe,
    image_set-IsExecutable patterns other plan maps.0 maps.1 maps.2 order is_order,
  )

-- the candidate of a set that a query maps onto is contained in the query
pub onto-contained : (rules : List Rule) (views : List ConjunctiveQuery) (other plan : ConjunctiveQuery) (set : List Bool) → MapsOnto other plan set
    → IsContained rules (IsFragmentAnswer views (candidate plan set)) (IsFragmentAnswer views other)
onto-contained rules views other plan set onto =
    contained-in_mapped rules views other (candidate plan set) (
      onto.m,
      onto.keeps,
      (λ atom inside. (onto.onto (image onto.m atom)).1 (Contains-map (image onto.m) other.body atom inside)),
      onto.head,
    )

pub queries_map_onto : QueriesMapOntoExecutableSets
queries_map_onto rules views patterns plan other is_query executable maps =
    let onto = maps_onto_executable patterns plan other is_query executable.0 executable.1 maps in (
      onto.0,
      record {
        onto = onto.1;
        has_candidate = onto.2;
        safe = onto.3;
        executable = onto.4;
        contained = onto-contained rules views other plan onto.0 onto.1;
      },
    )

-- ---- an executable rewriting

module _ (rules : List Rule) (views : List ConjunctiveQuery) (patterns : Patterns) (query plan other : ConjunctiveQuery)
    (rewriting : IsExecutableRewriting rules views patterns query other) where
  -- over a database that gives the query a row, the heads are as long as the row
  heads_of_one_length : IsSatisfiable rules query → length other.head ≡ length query.head
  heads_of_one_length (database, meets, (row, (m, keeps, sends, is))) =
      let answer = rewriting.equivalent.1 database meets row (m, keeps, sends, is) in
      sym (length-map other.head answer.0) ∙ ap length (sym answer.3 ∙ is) ∙ length-map query.head m

  module _ (flat : AreFlat plan.body) (universal : IsUniversalPlan rules views query plan) (satisfiable : IsSatisfiable rules query) where
    maps : MapsTo other plan
    maps = (universal other rewriting.is_query (heads_of_one_length satisfiable)).0 rewriting.equivalent.1

    plan_form : IsPlanFor query plan
    plan_form = record {
      same_length = ap length (sym maps.3) ∙ length-map other.head maps.0 ∙ heads_of_one_length satisfiable;
      has_head = λ none. rewriting.is_query.has_head (map-nil maps.0 other.head (maps.3 ∙ none));
      flat_body = flat;
    }

    pub maps_onto_rewriting : (set : List Bool) × IsRewriting rules views patterns query plan set × MapsOnto other plan set
    maps_onto_rewriting =
        let found = queries_map_onto rules views patterns plan other rewriting.is_query rewriting.executable maps in
        let is = found.1 in (
          found.0,
          record {
            has_candidate = is.has_candidate;
            safe = is.safe;
            executable = is.executable;
            equivalent = (candidate-equivalent plan found.0 query plan_form is.has_candidate is.safe rules views universal).1
                (λ database meets row answer. rewriting.equivalent.0 database meets row (is.contained database meets row answer));
          },
          is.onto,
        )
