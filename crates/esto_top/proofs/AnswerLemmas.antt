-- The answers of a query over finitely many facts stand in a list, and whether it maps to another, head to head, is decided.
use Rattle.std.proofs.Common.{◌≡◌, inl, inr, ℕ, List, ◌++◌, map, Contains, refl, sym, ap, ◌∙◌, subst}
use Rattle.std.proofs.lemmas.List.Elements.{Contains-append_cases, Contains-append_left, Contains-append_right}
use Rattle.esto_term.specs.declared.term.Term.{Term}
use Rattle.esto_term.specs.declared.term.Term.TheVariants.{Const}
use Rattle.esto_term.proofs.ChoiceLemmas.{Decided, decided_both, decided_as}
use Rattle.esto_term.proofs.ListLemmas.{Contains-map, Contains-map_from, Contains-flat, map_agree}
use Rattle.esto_semantics.specs.Facts.{terms_of, Mentions}
use Rattle.esto_semantics.specs.Instances.{MapsTo}
use Rattle.esto_semantics.specs.Maps.{AreFlat, IsFlat, IsFixedBy, Keeps, Sends}
use Rattle.esto_semantics.specs.Queries.{ConjunctiveQuery, IsAnswerInto}
use Rattle.esto_semantics.specs.declared.fact.Fact.{Fact}
use Rattle.esto_semantics.proofs.FactLemmas.{SendsInto-agree, Mentions-sent, decided_sends}
use Rattle.esto_semantics.proofs.TermLemmas.{decided_term}
use Rattle.esto_chase_laws.proofs.MakingLemmas.{terms_of-Mentions}
use Rattle.esto_term.proofs.DecisionLemmas.{same_list}
use Rattle.esto_top.proofs.ListedLemmas.{Listed}
use Rattle.esto_top.proofs.MapLemmas.{AreMaps, maps_listed, map_decided}

pub mentioned : {V : Type 0} (facts : List (Fact V)) (thing : V) → Mentions facts thing → Contains (terms_of facts) thing
mentioned {V} facts thing (fact, inside, in_fact) = Contains-flat (λ (fact : Fact V). fact.terms) facts fact thing inside in_fact

-- ---- answers

module _ {V : Type 0} (constant : List ℕ → V) (base : Term → V) (base_keeps : Keeps constant base) (decide : (thing other : V) → Decided (thing ≡ other))
    (query : ConjunctiveQuery) (flat : AreFlat query.body) (safe : (term : Term) → Contains query.head term → IsFixedBy query.body term)
    (facts : List (Fact V)) where
  maps_of : (maps : List (Term → V)) × AreMaps constant (terms_of query.body) (λ m. Sends m query.body facts) maps
  maps_of = maps_listed constant base base_keeps (terms_of query.body) (λ term inside. flat term (terms_of-Mentions query.body term inside)) (terms_of facts)
      (λ m. Sends m query.body facts)
      (λ m keeps. decided_sends decide facts m query.body)
      (λ m sends term inside. mentioned facts (m term) (Mentions-sent m query.body facts term sends (terms_of-Mentions query.body term inside)))
      (λ m other keeps other_keeps agree sends.
      SendsInto-agree m other query.body (Contains facts) (λ term inside. agree term (mentioned query.body term inside)) sends)

  head_agrees : (m other : Term → V) → Keeps constant m → Keeps constant other → ((term : Term) → Contains (terms_of query.body) term → m term ≡ other term)
      → map m query.head ≡ map other query.head
  head_agrees m other keeps other_keeps agree = map_agree m other query.head (λ term inside. elim (safe term inside) [
    | inl is ↦ ap m is.1 ∙ keeps is.0 ∙ sym (other_keeps is.0) ∙ ap other (sym is.1)
    | inr inner ↦ agree term (mentioned query.body term inner)
  ])

  pub answers_listed : Listed (IsAnswerInto constant query (Contains facts))
  answers_listed = (
    map (λ m. map m query.head) maps_of.0,
    λ row. (
      (λ inside.
          let from = Contains-map_from (λ (m : Term → V). map m query.head) maps_of.0 row inside in
          let has = maps_of.1.each from.0 from.1 in
          (from.0, has.0, has.1, sym from.2)),
      (λ (m, keeps, sends, is).
          let other = maps_of.1.all m keeps sends in
          subst (Contains (map (λ (m : Term → V). map m query.head) maps_of.0))
          (sym (head_agrees m other.0 keeps (maps_of.1.each other.0 other.1).0 other.2) ∙ sym is)
          (Contains-map (λ (m : Term → V). map m query.head) maps_of.0 other.0 other.1)),
    ),
  )

-- ---- maps from one query to another

pub maps_decided : (query other : ConjunctiveQuery) → AreFlat query.body → ((term : Term) → Contains query.head term → IsFlat term)
    → Decided (MapsTo query other)
maps_decided query other flat flat_head = decided_as ((λ (m, keeps, has). (m, keeps, has.0, has.1)), (λ (m, keeps, sends, head). (m, keeps, (sends, head))))
    (map_decided Const (λ term. term) (λ text. refl) (terms_of query.body ++ query.head)
    (λ term inside. elim (Contains-append_cases (terms_of query.body) query.head term inside) [
      | inl inner ↦ flat term (terms_of-Mentions query.body term inner)
      | inr there ↦ flat_head term there
    ])
    (terms_of other.body ++ other.head)
    (λ m. Sends m query.body other.body × (map m query.head ≡ other.head))
    (λ m keeps. decided_both (decided_sends decided_term other.body m query.body) (same_list decided_term (map m query.head) other.head))
    (λ m has term inside. elim (Contains-append_cases (terms_of query.body) query.head term inside) [
      | inl inner ↦ Contains-append_left (terms_of other.body) other.head (m term)
          (mentioned other.body (m term) (Mentions-sent m query.body other.body term has.0 (terms_of-Mentions query.body term inner)))
      | inr there ↦ Contains-append_right (terms_of other.body) other.head (m term)
          (subst (λ head. Contains head (m term)) has.1 (Contains-map m query.head term there))
    ])
    (λ m another keeps another_keeps agree has. (
      SendsInto-agree m another query.body (Contains other.body)
          (λ term inside. agree term (Contains-append_left (terms_of query.body) query.head term (mentioned query.body term inside))) has.0,
      sym (map_agree m another query.head (λ term inside. agree term (Contains-append_right (terms_of query.body) query.head term inside))) ∙ has.1,
    )))
