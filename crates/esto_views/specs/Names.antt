-- How the terms of a plan are named in print.
use Rattle.std.specs.Prelude.{ℕ, ◌+◌, ◌==◌, Bool, true, false, cond, ◌||◌, Option, Some, None, List, [], ◌∷◌, ◌++◌, slice_get}
use Rattle.esto_term.specs.declared.term.Term.{Term, out-Term}
use Rattle.esto_term.specs.declared.term.Term.TheOpen.{Term-F}
use Rattle.esto_query.specs.declared.query.Name.{Name}
use Rattle.esto_query.specs.declared.query.Name.TheVariants.{Given, Hidden}
use Rattle.esto_views.specs.declared.plan.PlanAtom.{PlanAtom}
use Rattle.esto_views.specs.declared.plan.Plan.{Plan}

-- Whether the list has the number.
abbrev pub has_number : List ℕ → ℕ → Bool
has_number [] number = false
has_number (first ∷ rest) number = (first == number) || has_number rest number

-- The number of a variable in the list of those without a name, where the first of the list has number `from`; 0 where it isn't one of them.
abbrev pub number_from : ℕ → List ℕ → ℕ → ℕ
number_from from [] variable = 0
number_from from (first ∷ rest) variable = cond (first == variable) from (number_from (from + 1) rest variable)

-- Whether there is a name, and it is given.
abbrev pub is_given : Option Name → Bool
is_given None = false
is_given (Some (Given text)) = true
is_given (Some Hidden) = false

-- The variables without a name that were met, and the variable too, where it has no given name and wasn't met.
abbrev pub met_variable : List Name → List ℕ → ℕ → List ℕ
met_variable names met variable = cond (is_given (slice_get names variable) || has_number met variable) met (met ++ variable ∷ [])

-- The variables without a name that were met, and that of one level of a term.
abbrev pub met_level : List Name → List ℕ → Term-F Term → List ℕ
met_level names met (Term-F.Const _) = met
met_level names met (Term-F.Plain variable) = met_variable names met variable
met_level names met (Term-F.Made _ _ _) = met

-- The variables without a name that were met, and those of the terms, each where it first occurs.
abbrev pub met_terms : List Name → List ℕ → List Term → List ℕ
met_terms names met [] = met
met_terms names met (term ∷ rest) = met_terms names (met_level names met (out-Term term)) rest

-- The variables without a name that were met, and those of the atoms, each where it first occurs.
abbrev pub met_atoms : List Name → List ℕ → List PlanAtom → List ℕ
met_atoms names met [] = met
met_atoms names met (atom ∷ rest) = met_atoms names (met_terms names met atom.terms) rest

-- The variables of a plan without a name, in the order in which they first occur in its atoms and then in its head.
abbrev pub nameless_of : Plan → List ℕ
nameless_of plan = met_terms plan.names (met_atoms plan.names [] plan.atoms) plan.head
