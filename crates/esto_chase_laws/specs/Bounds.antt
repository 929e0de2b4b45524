-- A bound on the steps of a run: the terms that may stand in it, and the frontier values at which a rule may be applied.
use Rattle.std.specs.Prelude.{ℕ, zero, suc, ◌+◌, ◌<◌, List, [], ◌∷◌, ◌++◌, map, length, Contains}
use Rattle.std.specs.List.{flat_map}
use Rattle.esto_term.specs.Finite.{Stock, lists_within, terms_within}
use Rattle.esto_term.specs.declared.term.Term.{Term, out-Term}
use Rattle.esto_term.specs.declared.term.Term.TheOpen.{Term-F}
use Rattle.esto_semantics.specs.Facts.{terms_of}
use Rattle.esto_semantics.specs.Queries.{ConjunctiveQuery}
use Rattle.esto_semantics.specs.Rules.{Rule, tuple, equality, denial}
use Rattle.esto_semantics.specs.declared.fact.Fact.{Fact}

-- The rank of each relation in the head of a tuple rule is greater than that of each relation in its body.
abbrev pub RanksRise : List Rule → (ℕ → ℕ) → Type 0
RanksRise rules rank =
    (body head : List (Fact Term)) → Contains rules (tuple body head)
    → (atom made : Fact Term) → Contains body atom → Contains head made → rank atom.relation < rank made.relation

-- The terms of a rule.
abbrev pub rule_terms : Rule → List Term
rule_terms (tuple body head) = terms_of body ++ terms_of head
rule_terms (equality body left right) = left ∷ right ∷ terms_of body
rule_terms (denial body) = terms_of body

-- The terms of the start's facts and of the rules.
abbrev pub first_terms : List Rule → ConjunctiveQuery → List Term
first_terms rules start = terms_of start.body ++ flat_map rule_terms rules

-- The text of one level of a constant.
abbrev pub texts_of_level : Term-F Term → List (List ℕ)
texts_of_level (Term-F.Const text) = text ∷ []
texts_of_level (Term-F.Plain _) = []
texts_of_level (Term-F.Made _ _ _) = []

-- The number of one level of a variable.
abbrev pub numbers_of_level : Term-F Term → List ℕ
numbers_of_level (Term-F.Const _) = []
numbers_of_level (Term-F.Plain number) = number ∷ []
numbers_of_level (Term-F.Made _ _ _) = []

-- The texts of the constants among the terms.
abbrev pub texts_of : List Term → List (List ℕ)
texts_of terms = flat_map (λ term. texts_of_level (out-Term term)) terms

-- The numbers of the variables among the terms.
abbrev pub numbers_of : List Term → List ℕ
numbers_of terms = flat_map (λ term. numbers_of_level (out-Term term)) terms

-- The numbers below this one.
abbrev pub numbers_below : ℕ → List ℕ
numbers_below zero = []
numbers_below (suc number) = number ∷ numbers_below number

-- What all terms of a run are made of: the constants and variables of the start and the rules, the rules' numbers, and the rules' variables.
abbrev pub stock_of : List Rule → ConjunctiveQuery → Stock
stock_of rules start = record {
  texts = texts_of (first_terms rules start);
  numbers = numbers_of (first_terms rules start);
  rules = numbers_below (length rules);
  variables = numbers_of (first_terms rules start);
}

-- No frontier is longer than all these terms.
abbrev pub width_of : List Rule → ConjunctiveQuery → ℕ
width_of rules start = length (first_terms rules start)

-- The terms that may stand in a run whose made terms nest at most so deep.
abbrev pub run_terms : List Rule → ConjunctiveQuery → ℕ → List Term
run_terms rules start depth = terms_within (stock_of rules start) (width_of rules start) depth

-- A rule's number, and values of its frontier.
abbrev pub Key : Type 0
Key = ℕ × List Term

-- The keys over these terms: each rule's number with each list of them that is no longer than the width.
abbrev pub run_keys : List Rule → ConjunctiveQuery → ℕ → List Key
run_keys rules start depth =
    flat_map (λ number. map (λ values. (number, values)) (lists_within (run_terms rules start depth) (width_of rules start))) (numbers_below (length rules))

-- The bound of the steps of a run whose made terms nest at most so deep: each step merges a term away for good, or applies a rule at frontier values at which
-- it was not applied before.
abbrev pub most_steps : List Rule → ConjunctiveQuery → ℕ → ℕ
most_steps rules start depth = length (run_terms rules start depth) + length (run_keys rules start depth)
