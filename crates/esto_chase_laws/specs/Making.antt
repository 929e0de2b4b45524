-- What a tuple rule makes of a match of its body. The made terms are named as in the Skolem chase (Marnette 2009): one for each rule, each of its existential
-- variables and each list of values of the frontier. The rules are applied at active matches alone, as in the standard chase.
use Rattle.std.specs.Prelude.{◌&&◌, ℕ, Bool, true, false, cond, List, [], map}
use Rattle.std.specs.List.{filter}
use Rattle.std.specs.Set.{is_member}
use Rattle.esto_term.specs.Order.{same_term}
use Rattle.esto_term.specs.declared.term.Term.{Term, out-Term}
use Rattle.esto_term.specs.declared.term.Term.TheOpen.{Term-F}
use Rattle.esto_term.specs.declared.term.Term.TheVariants.{Made}
use Rattle.esto_semantics.specs.Facts.{image, terms_of}
use Rattle.esto_semantics.specs.declared.fact.Fact.{Fact}
use Rattle.esto_chase_laws.specs.Joined.{joined_by}

-- Whether one level of a term is that of a variable.
abbrev pub is_variable_level : Term-F Term → Bool
is_variable_level (Term-F.Const _) = false
is_variable_level (Term-F.Plain _) = true
is_variable_level (Term-F.Made _ _ _) = false

-- Whether the term is a variable that stands in the atoms.
abbrev pub is_variable_of : List (Fact Term) → Term → Bool
is_variable_of atoms term = is_variable_level (out-Term term) && is_member same_term (terms_of atoms) term

-- The frontier: the variables that are in body and head, in order of first occurrence in the body.
abbrev pub frontier : List (Fact Term) → List (Fact Term) → List Term
frontier body head = joined_by same_term [] (filter (is_variable_of head) (terms_of body))

-- What a rule with these values of its frontier makes of a term that is not in its body, by the term's level.
abbrev pub made_of_level : ℕ → List Term → Term → Term-F Term → Term
made_of_level number values term (Term-F.Const _) = term
made_of_level number values term (Term-F.Plain variable) = Made number variable values
made_of_level number values term (Term-F.Made _ _ _) = term

-- A rule with this number and these values of its frontier makes a new term for a variable that is not in its body.
abbrev pub made_for : ℕ → List Term → Term → Term
made_for number values term = made_of_level number values term (out-Term term)

-- The map of the body, extended to the head: a variable of the head that is not in the body becomes the term that the rule makes for it.
abbrev pub extended : ℕ → List (Fact Term) → List (Fact Term) → (Term → Term) → Term → Term
extended number body head m term = cond (is_member same_term (terms_of body) term) (m term) (made_for number (map m (frontier body head)) term)

-- The facts that the rule makes of a match: its head under the extended map.
abbrev pub made_facts : ℕ → List (Fact Term) → List (Fact Term) → (Term → Term) → List (Fact Term)
made_facts number body head m = map (image (extended number body head m)) head
