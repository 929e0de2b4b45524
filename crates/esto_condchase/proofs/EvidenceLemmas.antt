-- The worlds of entries are consistent where the plan receives unions.
use Rattle.std.proofs.Common.{◌⊎◌, inl, inr, ℕ, Bool, List, [], ◌∷◌, length, Contains, refl, sym, subst}
use Rattle.esto_term.specs.declared.term.Term.{Term}
use Rattle.esto_term.proofs.ListLemmas.{Contains-head, Contains-map, Contains-one, map_itself}
use Rattle.esto_semantics.specs.Containment.{IsSatisfiable}
use Rattle.esto_semantics.specs.ExpansionLaws.{ExpansionAnswers}
use Rattle.esto_semantics.specs.Instances.{MapsTo}
use Rattle.esto_semantics.specs.Queries.{ConjunctiveQuery}
use Rattle.esto_semantics.specs.Rules.{Rule}
use Rattle.esto_semantics.specs.Unions.{ReceivesUnions}
use Rattle.esto_semantics.specs.Views.{IsFragmentAnswer}
use Rattle.esto_semantics.specs.declared.fact.Fact.{Fact}
use Rattle.esto_semantics.proofs.FactLemmas.{image_itself}
use Rattle.esto_views.specs.Expanded.{Expands, facts_chosen}
use Rattle.esto_semantics.specs.Expanded.{facts_of}
use Rattle.esto_views.specs.Fragments.{views_of}
use Rattle.esto_views.specs.Plans.{plan_query}
use Rattle.esto_semantics.specs.declared.expanded.ExpandedFact.{ExpandedFact}
use Rattle.esto_views.specs.declared.fragments.FragmentDef.{FragmentDef}
use Rattle.esto_views.specs.declared.plan.Plan.{Plan}
use Rattle.esto_chase_laws.specs.Worlds.{InWorld, IsBroken, IsDenied}
use Rattle.esto_chase_laws.specs.declared.entry.Entry.{Entry}
use Rattle.esto_views.proofs.ChosenLemmas.{chosen-are_facts, chosen-from}
use Rattle.esto_condchase.specs.Evidence.{AreConditional, AreConsistent}

maps_itself : (query : ConjunctiveQuery) → MapsTo query query
maps_itself query = (
  λ term. term,
  λ text. refl,
  λ atom inside. subst (Contains query.body) (sym (image_itself atom)) inside,
  map_itself query.head,
)

module _ (rules : List Rule) (fragments : List FragmentDef) (rank : ℕ → ℕ) (query : ConjunctiveQuery) (plan : Plan) (expanded : List ExpandedFact)
    (expands : Expands plan fragments expanded) (entries : List Entry) (are : AreConditional rules rank (length plan.atoms) expanded entries)
    (means : ExpansionAnswers) where
  among_facts : (set : List Bool) (fact : Fact Term) → Contains (facts_chosen set expanded) fact → Contains (facts_of expanded) fact
  among_facts set fact inside =
      let from = chosen-from set expanded fact inside in
      subst (Contains (facts_of expanded)) from.3 (Contains-map (λ (it : ExpandedFact). it.fact) expanded from.0 from.1)

  pub consistent : IsSatisfiable rules query → ReceivesUnions rules (views_of fragments) query (plan_query plan) → AreConsistent rules entries
  consistent (database, meets, (row, answer)) receives set =
      let contained = (receives (plan_query plan ∷ [])).1 (plan_query plan, Contains-head (plan_query plan) [], maps_itself (plan_query plan)) in
      let (member, inside, found) = contained database meets row answer in
      let own = subst (λ it. IsFragmentAnswer (views_of fragments) it database row) (sym (Contains-one (plan_query plan) member inside)) found in
      let given = (means (views_of fragments) (plan_query plan) (facts_of expanded) expands.of database row).0 own in
      let received : (IsBroken (InWorld entries set) ⊎ IsDenied rules (InWorld entries set)) → ⊥ =
      (λ which. are.nowhere set which (facts_chosen set expanded) (chosen-are_facts set expanded) database meets given.0 given.1
      (λ fact there. given.2 fact (among_facts set fact there))) in
      (λ broken. received (inl broken), λ denied. received (inr denied))
