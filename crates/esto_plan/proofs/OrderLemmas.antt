-- Orders of sets of atoms can be planned, and the candidate with its atoms in an order has the same answers.
use Rattle.std.proofs.Common.{◌≡◌, ◌↔◌, inl, inr, ℕ, zero, suc, ◌+◌, ◌<◌, Bool, true, false, List, [], ◌∷◌, ◌++◌, length, Some, None, Option, slice_get}
use Rattle.std.proofs.Common.{Contains, option_to_list, refl, sym, ap, ◌∙◌, subst, arith}
use Rattle.std.proofs.lemmas.Bool.{cases_lt}
use Rattle.std.proofs.lemmas.List.{append_assoc, get_or_past}
use Rattle.std.proofs.lemmas.List.Elements.{Contains-append_left, Contains-append_right, Contains-append_cases, Contains-push_cases}
use Rattle.std.proofs.lemmas.Option.{same_Some, none-some, get_or_from_slice_get}
use Rattle.esto_term.proofs.ListLemmas.{Contains-nil, Contains-head, Contains-rest, Contains-cases, Contains-at, Contains-map_from, at_right, map_at}
use Rattle.esto_term.specs.declared.term.Term.{Term}
use Rattle.esto_semantics.specs.Access.{Patterns, HasPattern, MeetsPattern, IsAccessible, IsEarlier, IsOrder}
use Rattle.esto_semantics.specs.Listed.{chosen, candidate}
use Rattle.esto_semantics.specs.Maps.{IsFixedBy}
use Rattle.esto_semantics.specs.Queries.{ConjunctiveQuery, IsAnswerInto}
use Rattle.esto_semantics.specs.declared.fact.Fact.{Fact}
use Rattle.esto_semantics.proofs.PlaceLemmas.{chosen-from_Has, Has-from_chosen}
use Rattle.esto_views.specs.Fragments.{patterns_of}
use Rattle.esto_views.specs.Plans.{fact_of, plan_query, IsPlanOver}
use Rattle.esto_views.specs.declared.fragments.FragmentDef.{FragmentDef}
use Rattle.esto_views.specs.declared.plan.Plan.{Plan}
use Rattle.esto_steps.specs.Planned.{CanMeet, CanPlan, atoms_of, ordered}

-- ---- the atoms of numbers

atoms_first : (body : List (Fact Term)) (number : ℕ) (numbers : List ℕ) (atom : Fact Term) → slice_get body number ≡ Some atom
    → atoms_of body (number ∷ numbers) ≡ atom ∷ atoms_of body numbers
atoms_first body number numbers atom at = ap (λ it. option_to_list it ++ atoms_of body numbers) at

pub atom_of_number : (body : List (Fact Term)) (numbers : List ℕ) (number : ℕ) (atom : Fact Term) → Contains numbers number → slice_get body number ≡ Some atom
    → Contains (atoms_of body numbers) atom
atom_of_number body [] number atom inside at = absurd (Contains-nil number inside)
atom_of_number body (first ∷ rest) number atom inside at = elim (Contains-cases first rest number inside) [
  | inl is ↦ subst (λ them. Contains them atom) (sym (atoms_first body first rest atom (ap (slice_get body) is ∙ at))) (Contains-head atom (atoms_of body rest))
  | inr later ↦ Contains-append_right (option_to_list (slice_get body first)) (atoms_of body rest) atom (atom_of_number body rest number atom later at)
]

pub number_of_atom : (body : List (Fact Term)) (numbers : List ℕ) (atom : Fact Term) → Contains (atoms_of body numbers) atom
    → (number : ℕ) × Contains numbers number × (slice_get body number ≡ Some atom)
number_of_atom body [] atom inside = absurd (Contains-nil atom inside)
number_of_atom body (first ∷ rest) atom inside = elim (Contains-append_cases (option_to_list (slice_get body first)) (atoms_of body rest) atom inside) [
  | inl here ↦ (first, Contains-head first rest, only (slice_get body first) here)
  | inr later ↦ let found = number_of_atom body rest atom later in (found.0, Contains-rest first rest found.0 found.1, found.2)
]
  where
    only : (read : Option (Fact Term)) → Contains (option_to_list read) atom → read ≡ Some atom
    only None there = absurd (Contains-nil atom there)
    only (Some own) there = elim (Contains-cases own [] atom there) [ inl is ↦ ap Some is | inr none ↦ absurd (Contains-nil atom none) ]

-- ---- the atoms of a set

-- an order has the atoms of its set
module _ (patterns : Patterns) (body : List (Fact Term)) (set : List Bool) (order : List ℕ) (is : IsOrder patterns body set order) where
  pub set_of_order : (atom : Fact Term) → Contains (atoms_of body order) atom → Contains (chosen set body) atom
  set_of_order atom inside = let found = number_of_atom body order atom inside in chosen-from_Has set body found.0 atom ((is.names found.0).0 found.1) found.2

  pub order_of_set : (atom : Fact Term) → Contains (chosen set body) atom → Contains (atoms_of body order) atom
  order_of_set atom inside = let found = Has-from_chosen set body atom inside in atom_of_number body order found.0 atom ((is.names found.0).1 found.1) found.2

  pub fixed_in_order : (term : Term) → IsFixedBy (chosen set body) term → IsFixedBy (atoms_of body order) term
  fixed_in_order term (inl constant) = inl constant
  fixed_in_order term (inr (atom, inside, there)) = inr (atom, order_of_set atom inside, there)

pub same_answers : {V : Type 0} (constant : List ℕ → V) (plan : ConjunctiveQuery) (patterns : Patterns) (set : List Bool) (order : List ℕ)
    (Holds : Fact V → Type 0) → IsOrder patterns plan.body set order
    → (row : List V) → IsAnswerInto constant (ordered plan order) Holds row ↔ IsAnswerInto constant (candidate plan set) Holds row
same_answers constant plan patterns set order Holds is row = (
  λ answer. (answer.0, answer.1, (λ fact inside. answer.2 fact (order_of_set patterns plan.body set order is fact inside)), answer.3),
  λ answer. (answer.0, answer.1, (λ fact inside. answer.2 fact (set_of_order patterns plan.body set order is fact inside)), answer.3),
)

-- ---- plans over fragments

module _ (plan : Plan) (fragments : List FragmentDef) (over : IsPlanOver plan fragments) where
  pub pattern_columns : (atom : Fact Term) (pattern : List Bool) → Contains (plan_query plan).body atom
      → HasPattern (patterns_of fragments) atom.relation pattern → length pattern ≡ length atom.terms
  pattern_columns atom pattern inside has =
      let found = Contains-map_from fact_of plan.atoms atom inside in
      let named = over found.0 found.1 in
      let same_relation : found.0.fragment ≡ atom.relation = ap (λ (it : Fact Term). it.relation) found.2 in
      let at : slice_get (patterns_of fragments) atom.relation ≡ Some named.0.access =
      ap (slice_get (patterns_of fragments)) (sym same_relation) ∙ map_at (λ (it : FragmentDef). it.access) fragments found.0.fragment named.0 named.1 in
      named.2.columns pattern (subst (λ them. Contains them pattern) (get_or_from_slice_get (patterns_of fragments) atom.relation named.0.access [] at) has)
      ∙ sym named.3
      ∙ ap (λ (it : Fact Term). length it.terms) found.2

-- ---- planning

module _ (patterns : Patterns) (body : List (Fact Term))
    (columns : (atom : Fact Term) (pattern : List Bool) → Contains body atom → HasPattern patterns atom.relation pattern
    → length pattern ≡ length atom.terms) where
  -- the bound terms are those of the atoms done
  abbrev HaveBound : List ℕ → List Term → Type 0
  HaveBound done bound = (number : ℕ) (atom : Fact Term) (term : Term) → Contains done number → slice_get body number ≡ Some atom → Contains atom.terms term
      → Contains bound term

  abbrev AreAccessible : List ℕ → Type 0
  AreAccessible order = (place number : ℕ) (atom : Fact Term) → slice_get order place ≡ Some number → slice_get body number ≡ Some atom
      → IsAccessible patterns body (IsEarlier order place) atom

  before_here : (done rest : List ℕ) (number : ℕ) → IsEarlier (done ++ rest) (length done) number → Contains done number
  before_here done rest number (earlier, below, at) = by done earlier below at
    where
      by : (own : List ℕ) (place : ℕ) → place < length own → slice_get (own ++ rest) place ≡ Some number → Contains own number
      by [] place below at = absurd (omega (arith, below))
      by (first ∷ own) zero below at = let same : first ≡ number = cc in subst (Contains (first ∷ own)) same (Contains-head first own)
      by (first ∷ own) (suc place) below at = Contains-rest first own number (by own place (omega (arith, below)) at)

  meets_here : (done rest : List ℕ) (bound : List Term) (atom : Fact Term) (pattern : List Bool) → HaveBound done bound
      → MeetsPattern body (IsEarlier (done ++ rest) (length done)) atom pattern → CanMeet bound atom.terms pattern
  meets_here done rest bound atom pattern have meets column term input at = elim (meets column term input at) [
    | inl constant ↦ inl constant
    | inr (number, earlier, found) ↦ inr (have number found.0 term (before_here done rest number earlier) found.1 found.2)
  ]

  can_plan : (done rest : List ℕ) (bound : List Term) → HaveBound done bound → AreAccessible (done ++ rest) → CanPlan patterns bound (atoms_of body rest)
  can_plan done [] bound have accessible = tt
  can_plan done (number ∷ rest) bound have accessible =
      by (slice_get body number) refl (λ more have_more. can_plan (done ++ number ∷ []) rest more have_more after)
    where
      after : AreAccessible ((done ++ number ∷ []) ++ rest)
      after = subst AreAccessible (sym (append_assoc done (number ∷ []) rest)) accessible

      here : slice_get (done ++ number ∷ rest) (length done) ≡ Some number
      here = ap (slice_get (done ++ number ∷ rest)) (let more : length done ≡ length done + 0 = omega arith in more)
          ∙ at_right done (number ∷ rest) 0 number refl

      without : slice_get body number ≡ None → HaveBound (done ++ number ∷ []) bound
      without none own atom term inside there among = elim (Contains-push_cases done number own inside) [
        | inl before ↦ have own atom term before there among
        | inr last ↦ absurd (none-some atom (sym none ∙ ap (slice_get body) last ∙ there))
      ]

      with_atom : (atom : Fact Term) → slice_get body number ≡ Some atom → HaveBound (done ++ number ∷ []) (bound ++ atom.terms)
      with_atom atom at own other term inside there among = elim (Contains-push_cases done number own inside) [
        | inl before ↦ Contains-append_left bound atom.terms term (have own other term before there among)
        | inr last ↦ Contains-append_right bound atom.terms term
            (subst (λ (it : Fact Term). Contains it.terms term) (same_Some other atom (sym there ∙ ap (slice_get body) (sym last) ∙ at)) among)
      ]

      by : (read : Option (Fact Term)) → slice_get body number ≡ read
          → ((more : List Term) → HaveBound (done ++ number ∷ []) more → CanPlan patterns more (atoms_of body rest))
          → CanPlan patterns bound (option_to_list read ++ atoms_of body rest)
      by None at again = again bound (without at)
      by (Some atom) at again =
          let own = accessible (length done) number atom here at in (
            (own.0, own.1, meets_here done (number ∷ rest) bound atom own.0 have own.2),
            (λ pattern has. columns atom pattern (Contains-at body number atom at) has),
            again (bound ++ atom.terms) (with_atom atom at),
          )

  pub order_can_plan : (set : List Bool) (order : List ℕ) → IsOrder patterns body set order → CanPlan patterns [] (atoms_of body order)
  order_can_plan set order is = can_plan [] order [] (λ number atom term inside there among. absurd (Contains-nil number inside)) is.accessible

pub order_named : (patterns : Patterns) (plan : ConjunctiveQuery) (set : List Bool) (order : List ℕ) → IsOrder patterns plan.body set order → (number : ℕ)
    → Contains order number → number < length plan.body
order_named patterns plan set order is number inside =
    let has = (is.names number).0 inside in let over = is.over in
    elim (cases_lt number (length set)) [
      | inl below ↦ omega (arith, below, over)
      | inr past ↦ let wrong : true ≡ false = sym has ∙ get_or_past set number false past in cc
    ]
