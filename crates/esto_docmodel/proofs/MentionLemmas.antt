-- What terms the atoms of a pattern have.
use Rattle.std.proofs.Common.{ℕ, suc, ◌+◌, ◌<◌, ◌≤◌, List, [], ◌∷◌, ◌++◌, length, Contains, refl, sym, subst, inl, inr, arith}
use Rattle.std.proofs.lemmas.List.Elements.{Contains-append_cases, Contains-append_left, Contains-append_right}
use Rattle.esto_term.proofs.ListLemmas.{Contains-nil, Contains-head, Contains-rest, Contains-cases, Contains-map, Contains-map_from, Contains-one}
use Rattle.esto_term.specs.declared.term.Term.{Term}
use Rattle.esto_term.specs.declared.term.Term.TheVariants.{Const, Plain}
use Rattle.esto_semantics.specs.Facts as facts
use Rattle.esto_semantics.specs.declared.fact.Fact.{Fact}
use Rattle.esto_docmodel.specs.DocumentFacts.{DocFact, root, value, row_of, flat}
use Rattle.esto_docmodel.specs.Encodings.{linked, end, step_atoms, used, atoms, pattern_atoms, atoms_of}
use Rattle.esto_docmodel.specs.Patterns.{Entries, done, holds, group, Mentions}
use Rattle.esto_docmodel.specs.declared.pattern.Step.{Step}
use Rattle.esto_docmodel.specs.declared.pattern.Step.TheVariants.{Name, Item, Below}

-- the fact has only such terms
abbrev HasOnly : (Term → Type 0) → DocFact Term → Type 0
HasOnly P fact = (term : Term) → Contains (row_of fact) term → P term

abbrev HaveOnly : (Term → Type 0) → List (DocFact Term) → Type 0
HaveOnly P these = (fact : DocFact Term) → Contains these fact → HasOnly P fact

module _ (P : Term → Type 0) where
  only_one : (x : Term) → P x → (term : Term) → Contains (x ∷ []) term → P term
  only_one x px term inside = subst P (Contains-one x term inside) px

  only_two : (x y : Term) → P x → P y → (term : Term) → Contains (x ∷ y ∷ []) term → P term
  only_two x y px py term inside = elim (Contains-cases x (y ∷ []) term inside) [ inl is ↦ subst P is px | inr later ↦ only_one y py term later ]

  only_three : (x y z : Term) → P x → P y → P z → (term : Term) → Contains (x ∷ y ∷ z ∷ []) term → P term
  only_three x y z px py pz term inside =
      elim (Contains-cases x (y ∷ z ∷ []) term inside) [ inl is ↦ subst P is px | inr later ↦ only_two y z py pz term later ]

  have_joined : (these others : List (DocFact Term)) → HaveOnly P these → HaveOnly P others → HaveOnly P (these ++ others)
  have_joined these others first second fact inside =
      elim (Contains-append_cases these others fact inside) [ inl here ↦ first fact here | inr later ↦ second fact later ]

  have_more : (first : DocFact Term) (others : List (DocFact Term)) → HasOnly P first → HaveOnly P others → HaveOnly P (first ∷ others)
  have_more first others here later fact inside =
      elim (Contains-cases first others fact inside) [ inl is ↦ subst (HasOnly P) is here | inr rest ↦ later fact rest ]

  module _ (bound : ℕ) (constants : (text : List ℕ) → P (Const text)) (numbers : (number : ℕ) → number < bound → P (Plain number)) where
    has_step : (step : Step) (from to : ℕ) → from < bound → to < bound → HasOnly P (linked Const step (Plain from) (Plain to))
    has_step (Name k) from to low high = only_three (Plain from) (Const k) (Plain to) (numbers from low) (constants k) (numbers to high)
    has_step Item from to low high = only_two (Plain from) (Plain to) (numbers from low) (numbers to high)
    has_step Below from to low high = only_two (Plain from) (Plain to) (numbers from low) (numbers to high)

    have_steps : (path : List Step) (v next : ℕ) → v < bound → next + length path ≤ bound → HaveOnly P (step_atoms path v next)
    have_steps [] v next low room = λ fact inside. absurd (Contains-nil fact inside)
    have_steps (step ∷ path) v next low room =
        have_more _ _ (has_step step v next low (omega (arith, room))) (have_steps path next (suc next) (omega (arith, room)) (omega (arith, room)))

    end_within : (path : List Step) (v next : ℕ) → v < bound → next + length path ≤ bound → end path v next < bound
    end_within [] v next low room = low
    end_within (step ∷ path) v next low room = end_within path next (suc next) (omega (arith, room)) (omega (arith, room))

    pub have_atoms : (entries : Entries) (v next : ℕ) → v < bound → next + used entries ≤ bound → ((term : Term) → Mentions entries term → P term)
        → HaveOnly P (atoms entries v next)
    have_atoms done v next low room said = λ fact inside. absurd (Contains-nil fact inside)
    have_atoms (holds path term rest) v next low room said =
        have_joined _ _ (have_steps path v next low (omega (arith, room)))
        (have_more _ _
        (only_two (Plain (end path v next)) term (numbers (end path v next) (end_within path v next low (omega (arith, room)))) (said term (inl refl)))
        (have_atoms rest v (next + length path) low (omega (arith, room)) (λ x h. said x (inr h))))
    have_atoms (group path inner rest) v next low room said =
        have_joined _ _ (have_steps path v next low (omega (arith, room)))
        (have_joined _ _
        (have_atoms inner (end path v next) (next + length path) (end_within path v next low (omega (arith, room))) (omega (arith, room))
        (λ x h. said x (inl h)))
        (have_atoms rest v ((next + length path) + used inner) low (omega (arith, room)) (λ x h. said x (inr h))))

    pub atoms_have : (base : ℕ) (entries : Entries) (r next : ℕ) → r < bound → next + used entries ≤ bound → ((term : Term) → Mentions entries term → P term)
        → (term : Term) → facts.Mentions (atoms_of base entries r next) term → P term
    atoms_have base entries r next low room said term (fact, inside, there) =
        let found = Contains-map_from (flat base) (pattern_atoms entries r next) fact inside in
        have_more (root (Plain r)) (atoms entries r next) (only_one (Plain r) (numbers r low)) (have_atoms entries r next low room said) found.0 found.1 term
        (subst (λ (w : Fact Term). Contains w.terms term) (sym found.2) there)

-- a term that stands after `:` stands in one of the atoms
abbrev HasTerm : List (DocFact Term) → Term → Type 0
HasTerm these term = (fact : DocFact Term) × Contains these fact × Contains (row_of fact) term

has_left : (these others : List (DocFact Term)) (term : Term) → HasTerm these term → HasTerm (these ++ others) term
has_left these others term (fact, inside, there) = (fact, Contains-append_left these others fact inside, there)

has_right : (these others : List (DocFact Term)) (term : Term) → HasTerm others term → HasTerm (these ++ others) term
has_right these others term (fact, inside, there) = (fact, Contains-append_right these others fact inside, there)

has_rest : (first : DocFact Term) (others : List (DocFact Term)) (term : Term) → HasTerm others term → HasTerm (first ∷ others) term
has_rest first others term (fact, inside, there) = (fact, Contains-rest first others fact inside, there)

has_said : (entries : Entries) (v next : ℕ) (term : Term) → Mentions entries term → HasTerm (atoms entries v next) term
has_said done v next term never = absurd never
has_said (holds path first rest) v next term (inl is) =
    has_right (step_atoms path v next) _ term (
      value (Plain (end path v next)) first,
      Contains-head _ _,
      Contains-rest (Plain (end path v next)) (first ∷ []) term (subst (λ (w : Term). Contains (first ∷ []) w) is (Contains-head first [])),
    )
has_said (holds path first rest) v next term (inr later) =
    has_right (step_atoms path v next) _ term (has_rest _ _ term (has_said rest v (next + length path) term later))
has_said (group path inner rest) v next term (inl inside) =
    has_right (step_atoms path v next) _ term (has_left _ _ term (has_said inner (end path v next) (next + length path) term inside))
has_said (group path inner rest) v next term (inr later) =
    has_right (step_atoms path v next) _ term
    (has_right (atoms inner (end path v next) (next + length path)) _ term (has_said rest v ((next + length path) + used inner) term later))

pub said_in_atoms : (base : ℕ) (entries : Entries) (r next : ℕ) (term : Term) → Mentions entries term → facts.Mentions (atoms_of base entries r next) term
said_in_atoms base entries r next term said =
    let found = has_rest (root (Plain r)) (atoms entries r next) term (has_said entries r next term said) in
    (flat base found.0, Contains-map (flat base) (pattern_atoms entries r next) found.0 found.1, found.2)
