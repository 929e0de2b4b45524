-- What a plan's atoms ask of the datasets, atom by atom.
use Rattle.std.specs.Prelude.{◌≡◌, ◌↔◌, ℕ, ◌+◌, ◌<◌, Bool, false, cond, List, [], ◌∷◌, ◌++◌, Some, length, map, slice_get, slice_index_or, Contains}
use Rattle.esto_term.specs.declared.term.Term.{Term}
use Rattle.esto_semantics.specs.Expansions.{IsExpansion}
use Rattle.esto_semantics.specs.Facts.{image}
use Rattle.esto_semantics.specs.declared.fact.Fact.{Fact}
use Rattle.esto_query.specs.Making.{query_of}
use Rattle.esto_views.specs.Fragments.{views_of}
use Rattle.esto_views.specs.Plans.{plan_query}
use Rattle.esto_semantics.specs.Spreads.{IsSpread}
use Rattle.esto_semantics.specs.declared.expanded.ExpandedFact.{ExpandedFact}
use Rattle.esto_views.specs.declared.fragments.FragmentDef.{FragmentDef}
use Rattle.esto_views.specs.declared.plan.PlanAtom.{PlanAtom}
use Rattle.esto_views.specs.declared.plan.Plan.{Plan}
use Rattle.esto_semantics.specs.Expanded.{facts_of}

-- The facts as those of an atom, one a place, from that place on.
abbrev pub placed : ℕ → ℕ → List (Fact Term) → List ExpandedFact
placed atom place [] = []
placed atom place (fact ∷ facts) = record { atom = atom; place = place; fact = fact } ∷ placed atom (place + 1) facts

-- The expanded facts of the atoms, one atom after the other: the first one has this number, and its new variables are numbered from `first` on. An atom has
-- its view's body, place by place, under what the view's terms stand for in it; the new variables of the next atom come after its own.
abbrev pub AreExpanded : List FragmentDef → ℕ → ℕ → List PlanAtom → List ExpandedFact → Type 0
AreExpanded fragments number first [] expanded = expanded ≡ []
AreExpanded fragments number first (atom ∷ atoms) expanded =
    (fragment : FragmentDef) × (slice_get fragments atom.fragment ≡ Some fragment)
    × ((next : ℕ) × ((m : Term → Term) × IsSpread (query_of fragment.view) atom.terms first next m
    × ((rest : List ExpandedFact) × (expanded ≡ placed number 0 (map (image m) fragment.view.body) ++ rest)
    × AreExpanded fragments (number + 1) next atoms rest)))

-- The expanded facts are an expansion of the plan, and each says of which atom it is, and of which place of the view's body: the fact at a place of an atom
-- is the image of what stands there in the body.
pub record Expands (plan : Plan) (fragments : List FragmentDef) (expanded : List ExpandedFact) : Type 0 where
  pub of : IsExpansion (views_of fragments) (plan_query plan) (facts_of expanded)
  pub exact : (fact : ExpandedFact) → Contains expanded fact
      ↔ ((fact.atom < length plan.atoms)
      × ((part : Fact Term) × (slice_get (of.view fact.atom).body fact.place ≡ Some part) × (image (of.spread fact.atom) part ≡ fact.fact)))

-- The facts of an expansion that come from atoms of the set, in order.
abbrev pub facts_chosen : List Bool → List ExpandedFact → List (Fact Term)
facts_chosen set [] = []
facts_chosen set (first ∷ rest) = cond (slice_index_or set first.atom false) (first.fact ∷ facts_chosen set rest) (facts_chosen set rest)
