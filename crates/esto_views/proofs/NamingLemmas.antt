-- Numbers that are looked for in a list, and variables without a name that are met in turn.
use Rattle.std.proofs.Common.{◌≡◌, ℕ, ◌+◌, ◌==◌, ◌<◌, ◌≤◌, ◌||◌, Bool, true, false, cond, List, length, get_or, drop, sym, ap, ◌∙◌}
use Rattle.std.proofs.lemmas.Bool.{eq-eqb, ne_eqb}
use Rattle.std.proofs.lemmas.List.{at_drop_more, at_drop_all, drop_all}
use Rattle.esto_term.specs.declared.term.Term.{Term, out-Term}
use Rattle.esto_query.specs.declared.query.Name.{Name}
use Rattle.esto_views.specs.declared.plan.PlanAtom.{PlanAtom}
use Rattle.esto_term.proofs.PlaceLemmas.{drop-item}
use Rattle.esto_views.specs.Names.{has_number, number_from, met_level, met_terms, met_atoms}

-- the number of a variable is that in the rest of the list
module _ (nameless : List ℕ) (variable place number : ℕ) (so_far : number ≡ number_from (place + 1) (drop place nameless) variable) where
  module _ (below : place < length nameless) where
    turn : (same : Bool) → (get_or nameless place 0 == variable) ≡ same
        → number ≡ cond same (place + 1) (number_from (place + 1 + 1) (drop (place + 1) nameless) variable)
    turn same is =
        so_far ∙ at_drop_more (λ them. number_from (place + 1) them variable) nameless place 0 below
        ∙ ap (λ it. cond it (place + 1) (number_from (place + 1 + 1) (drop (place + 1) nameless) variable)) is

    pub number_found : get_or nameless place 0 ≡ variable → place + 1 ≡ number
    number_found is = sym (turn true (eq-eqb _ _ is))

    pub number_next : (get_or nameless place 0 ≡ variable → ⊥) → number ≡ number_from (place + 1 + 1) (drop (place + 1) nameless) variable
    number_next other = turn false (ne_eqb _ _ other)

  pub number_none : length nameless ≤ place → 0 ≡ number
  number_none past = sym (so_far ∙ at_drop_all (λ them. number_from (place + 1) them variable) nameless place past)

-- a list has a number where the rest of the list has it
module _ (met : List ℕ) (number place : ℕ) (has : Bool) (so_far : has ≡ has_number (drop place met) number) where
  module _ (below : place < length met) where
    check : (same : Bool) → (get_or met place 0 == number) ≡ same → has ≡ (same || has_number (drop (place + 1) met) number)
    check same is =
        so_far ∙ at_drop_more (λ them. has_number them number) met place 0 below ∙ ap (λ it. it || has_number (drop (place + 1) met) number) is

    pub has_found : get_or met place 0 ≡ number → true ≡ has
    has_found is = sym (check true (eq-eqb _ _ is))

    pub has_next : (get_or met place 0 ≡ number → ⊥) → has ≡ has_number (drop (place + 1) met) number
    has_next other = check false (ne_eqb _ _ other)

  pub has_none : length met ≤ place → false ≡ has
  has_none past = sym (so_far ∙ at_drop_all (λ them. has_number them number) met place past)

-- the variables of the terms up to a place are met, and those of the rest are to come
module _ (names : List Name) (terms : List Term) (place : ℕ) (met whole : List ℕ) (so_far : met_terms names met (drop place terms) ≡ whole) where
  pub terms_turn : (term : Term) (more : List ℕ) → place < length terms → term ≡ get_or terms place term → more ≡ met_level names met (out-Term term)
      → met_terms names more (drop (place + 1) terms) ≡ whole
  terms_turn term more below is grown =
      ap (λ it. met_terms names it (drop (place + 1) terms)) grown ∙ sym (ap (met_terms names met) (drop-item terms place term below is)) ∙ so_far

  pub terms_end : length terms ≤ place → met ≡ whole
  terms_end past = sym (ap (met_terms names met) (drop_all place terms past)) ∙ so_far

-- the same of the terms of atoms
module _ (names : List Name) (atoms : List PlanAtom) (place : ℕ) (met whole : List ℕ) (so_far : met_atoms names met (drop place atoms) ≡ whole) where
  pub atoms_turn : (atom : PlanAtom) (terms : List Term) (more : List ℕ) → place < length atoms → atom ≡ get_or atoms place atom → terms ≡ atom.terms
      → more ≡ met_terms names met terms → met_atoms names more (drop (place + 1) atoms) ≡ whole
  atoms_turn atom terms more below is same grown =
      ap (λ it. met_atoms names it (drop (place + 1) atoms)) (grown ∙ ap (met_terms names met) same)
      ∙ sym (ap (met_atoms names met) (drop-item atoms place atom below is)) ∙ so_far

  pub atoms_end : length atoms ≤ place → met ≡ whole
  atoms_end past = sym (ap (met_atoms names met) (drop_all place atoms past)) ∙ so_far
