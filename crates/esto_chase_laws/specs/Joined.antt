-- Lists in which what is there is not put again.
use Rattle.std.specs.Prelude.{◌&&◌, ◌==◌, Bool, cond, List, [], ◌∷◌, ◌++◌}
use Rattle.std.specs.Set.{is_member}
use Rattle.std.specs.Cmp.Lexicographic.{pointwise}
use Rattle.esto_term.specs.Order.{same_term}
use Rattle.esto_term.specs.declared.term.Term.{Term}
use Rattle.esto_semantics.specs.declared.fact.Fact.{Fact}

-- Each of the further things that is not there is put at the end, one after the other.
abbrev pub joined_by : {A : Type 0} → (A → A → Bool) → List A → List A → List A
joined_by same things [] = things
joined_by same things (next ∷ more) = joined_by same (cond (is_member same things next) things (things ++ next ∷ [])) more

-- Whether the facts are one.
abbrev pub same_fact : Fact Term → Fact Term → Bool
same_fact fact other = (fact.relation == other.relation) && pointwise same_term fact.terms other.terms

-- The facts, and then each of the further facts that is not there, in order and once.
abbrev pub joined : List (Fact Term) → List (Fact Term) → List (Fact Term)
joined facts more = joined_by same_fact facts more
