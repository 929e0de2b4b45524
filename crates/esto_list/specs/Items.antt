-- The items of a list, their weights, and the pick.
use Rattle.std.specs.Prelude.{◌≡◌, ℕ, All, Bool, Option, List, [], sum, map, slice_index_or, MatchOption}
use Rattle.esto_term.specs.declared.term.Term.{Term}
use Rattle.esto_semantics.specs.Access.{IsStatedOrder}
use Rattle.esto_semantics.specs.Listed.{chosen, IsPick, IsWeight}
use Rattle.esto_semantics.specs.declared.fact.Fact.{Fact}
use Rattle.esto_views.specs.Fragments.{patterns_of, weights_of}
use Rattle.esto_views.specs.Plans.{plan_query}
use Rattle.esto_views.specs.declared.fragments.FragmentDef.{FragmentDef}
use Rattle.esto_views.specs.declared.plan.Plan.{Plan}
use Rattle.esto_list.specs.declared.listing.Listed.{Listed}

-- The sum, over the atoms that the set names, of their fragments' weights.
abbrev pub set_weight : List ℕ → List (Fact Term) → List Bool → ℕ
set_weight weights atoms set = sum (map (λ atom. slice_index_or weights atom.relation 0) (chosen set atoms))

-- Each item has the stated order of its set of the plan's atoms.
abbrev pub HaveOrders : Plan → List FragmentDef → List Listed → Type 0
HaveOrders plan fragments items = All (λ item. IsStatedOrder (patterns_of fragments) (plan_query plan).body item.set item.order) items

-- Each item has the sum of the weights of the atoms that its set names.
abbrev pub HaveSums : Plan → List FragmentDef → List Listed → Type 0
HaveSums plan fragments items = All (λ item. item.weight ≡ set_weight (weights_of fragments) (plan_query plan).body item.set) items

-- Each item has the weight of the distinct atoms of its set.
abbrev pub HaveWeights : Plan → List FragmentDef → List Listed → Type 0
HaveWeights plan fragments items = All (λ item. IsWeight (weights_of fragments) (chosen item.set (plan_query plan).body) item.weight) items

-- The sets of the items, in order.
abbrev pub sets_of : List Listed → List (List Bool)
sets_of items = map (λ item. item.set) items

-- The weights of the items, in order.
abbrev pub totals_of : List Listed → List ℕ
totals_of items = map (λ item. item.weight) items

-- The pick: none exactly where there is no item, and else the place of the first item of least weight.
abbrev pub IsPickOf : List Listed → Option ℕ → Type 0
IsPickOf items pick = MatchOption pick (items ≡ []) (IsPick (totals_of items))
