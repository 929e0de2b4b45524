-- A valuation that sends one row to another, found as a match of the one row in the other, and a query's match that goes on from it.
use Rattle.std.proofs.Common.{Option, None, Some, Result, Ok, Err, IsTrue, IfOk, IfSome, IfNone, MatchOption, ◌≡◌, ◌↔◌, inl, inr, ℕ, zero, suc, Bool, List}
use Rattle.std.proofs.Common.{[], ◌∷◌, map, Contains, refl, sym, ap, subst, ◌∙◌}
use Rattle.std.proofs.lemmas.Bool.{false≢true}
use Rattle.std.specs.Bool.{⊤}
use Rattle.std.specs.Option.{is_some}
use Rattle.std.specs.FinMap.{empty, get-empty}
use Rattle.std.specs.Ordering.{nat_cmp}
use Rattle.std.proofs.lemmas.Option.{none-some, same_Some}
use Rattle.esto_term.specs.declared.term.Term.{Term}
use Rattle.esto_term.specs.declared.term.Term.TheVariants.{Const}
use Rattle.esto_term.proofs.ListLemmas.{Contains-cases, Contains-nil}
use Rattle.esto_semantics.specs.Instances.{MapsTo}
use Rattle.esto_semantics.specs.Maps.{AreFlat, IsFlat, Keeps, Sends}
use Rattle.esto_semantics.specs.Matches.{IsMatch}
use Rattle.esto_semantics.specs.Queries.{ConjunctiveQuery}
use Rattle.esto_semantics.specs.declared.fact.Fact.{Fact}
use Rattle.esto_query.specs.Matches.{IsLeastMatch, HasNoMatch}
use Rattle.esto_semantics.specs.Valuations.{Assignment, Extends, map_of}
use Rattle.esto_query.specs.declared.matches.Found.{Found}
use Rattle.esto_instance.specs.Receiving.{row_fact, NoneMatches, IsOfMatch, NoneSends, IsSending}

-- every map extends the empty valuation
extends-empty : (m : Term → Term) → Extends m empty
extends-empty m variable term told = absurd (none-some term (sym (get-empty nat_cmp variable) ∙ told))

-- the atom of a row is over constants and variables where the row is
pub row-flat : (terms : List Term) (body : List (Fact Term)) → body ≡ row_fact terms ∷ [] → ((term : Term) → Contains terms term → IsFlat term) → AreFlat body
row-flat terms body is flat term (fact, inside, at) = elim (Contains-cases (row_fact terms) [] fact (subst (λ it. Contains it fact) is inside)) [
  | inl same ↦ flat term (subst (λ (it : Fact Term). Contains it.terms term) (sym same) at)
  | inr none ↦ absurd (Contains-nil fact none)
]

module _ (terms targets : List Term) where
  -- a map that sends the one row to the other matches the atom at the one place
  row-match : (m : Term → Term) → map m terms ≡ targets → IsMatch m (row_fact terms ∷ []) (row_fact targets ∷ []) (0 ∷ [])
  row-match m sent = (ap (λ row. Some (row_fact row)) (sym sent), tt)

  -- at whatever places a match is, it is at that one, and sends the one row to the other
  match-row : (m : Term → Term) (places : List ℕ) → IsMatch m (row_fact terms ∷ []) (row_fact targets ∷ []) places → (places ≡ 0 ∷ []) × (map m terms ≡ targets)
  match-row m [] matches = absurd matches
  match-row m (zero ∷ []) matches =
      let same : row_fact targets ≡ row_fact (map m terms) = same_Some (row_fact targets) (row_fact (map m terms)) matches.0 in
      (refl, ap (λ (it : Fact Term). it.terms) (sym same))
  match-row m (suc place ∷ []) matches = absurd (none-some (row_fact (map m terms)) matches.0)
  match-row m (place ∷ other ∷ places) matches = absurd matches.1

  module _ (body facts : List (Fact Term)) (body_is : body ≡ row_fact terms ∷ []) (facts_are : facts ≡ row_fact targets ∷ []) where
    moved : (m : Term → Term) (places : List ℕ) → IsMatch m body facts places ↔ IsMatch m (row_fact terms ∷ []) (row_fact targets ∷ []) places
    moved m places = (
      λ matches. subst (λ atoms. IsMatch m atoms (row_fact targets ∷ []) places) body_is (subst (λ others. IsMatch m body others places) facts_are matches),
      λ matches. subst (λ others. IsMatch m body others places) (sym facts_are)
          (subst (λ atoms. IsMatch m atoms (row_fact targets ∷ []) places) (sym body_is) matches),
    )

    match-starts : (keeps : (valuation : Assignment) → Keeps Const (map_of valuation))
        → (extends : (valuation : Assignment) → Extends (map_of valuation) valuation)
        → (valuation : Assignment) → IsOfMatch body facts valuation → IsSending terms targets valuation
    match-starts keeps extends valuation (places, least) m keeps_m =
        let own = (least.is_found.exact (map_of valuation) (keeps valuation)).0 (extends valuation) in
        let place = (match-row (map_of valuation) places ((moved (map_of valuation) places).0 own.1)).0 in (
          λ extends_m. (match-row m places ((moved m places).0 ((least.is_found.exact m keeps_m).0 extends_m).1)).1,
          λ sent. (least.is_found.exact m keeps_m).1 (
            extends-empty m,
            subst (IsMatch m body facts) (sym place) ((moved m (0 ∷ [])).1 (row-match m sent)),
          ),
        )

    none-starts : NoneMatches body facts → NoneSends terms targets
    none-starts none m keeps sent = none m (0 ∷ []) keeps (extends-empty m) ((moved m (0 ∷ [])).1 (row-match m sent)) tt

    pub match-sends : {E : Type 0} (keeps : (valuation : Assignment) → Keeps Const (map_of valuation))
        → (extends : (valuation : Assignment) → Extends (map_of valuation) valuation)
        → (outcome : Result (Option Assignment) E)
        → IfOk outcome (λ start. MatchOption start (NoneMatches body facts) (IsOfMatch body facts))
        → IfOk outcome (λ start. MatchOption start (NoneSends terms targets) (IsSending terms targets))
    match-sends keeps extends (Ok (Some valuation)) found = match-starts keeps extends valuation found
    match-sends keeps extends (Ok None) none = none-starts none
    match-sends keeps extends (Err error) refused = tt

-- ---- a match that says that a query maps to facts, head to head

module _ (query target : ConjunctiveQuery) (start : Assignment) (is_start : IsSending query.head target.head start)
    (send : (m : Term → Term) (body facts : List (Fact Term)) → Sends m body facts ↔ ((places : List ℕ) × IsMatch m body facts places))
    (keeps : (valuation : Assignment) → Keeps Const (map_of valuation)) (extends : (valuation : Assignment) → Extends (map_of valuation) valuation) where
  match-maps : (valuation : Assignment) (places : List ℕ) → IsLeastMatch query.body target.body start (λ _. ⊤) valuation places → MapsTo query target
  match-maps valuation places least =
      let m = map_of valuation in
      let both = (least.is_found.exact m (keeps valuation)).0 (extends valuation) in
      (m, keeps valuation, (send m query.body target.body).1 (places, both.1), (is_start m (keeps valuation)).0 both.0)

  none-maps : HasNoMatch query.body target.body start (λ _. ⊤) → MapsTo query target → ⊥
  none-maps none maps =
      let there = (send maps.0 query.body target.body).0 maps.2 in
      none maps.0 there.0 maps.1 ((is_start maps.0 maps.1).1 maps.3) there.1 tt

  pub found-maps : (outcome : Option Found)
      → IfSome outcome (λ found. IsLeastMatch query.body target.body start (λ _. ⊤) found.valuation found.places)
      → IfNone outcome (HasNoMatch query.body target.body start (λ _. ⊤)) → (answer : Bool) → answer ≡ is_some outcome → IsTrue answer ↔ MapsTo query target
  found-maps (Some found) some none answer is = (λ _. match-maps found.valuation found.places some, λ _. is)
  found-maps None some none answer is = (λ holds. absurd (false≢true (sym is ∙ holds)), λ maps. absurd (none-maps none maps))
