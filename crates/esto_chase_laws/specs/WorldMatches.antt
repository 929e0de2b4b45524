-- Matches of a body in what holds, by the terms that the body's terms meet first.
use Rattle.std.specs.Prelude.{◌≡◌, ◌⊎◌, List, map, length}
use Rattle.std.specs.List.{AllZip}
use Rattle.esto_term.specs.declared.term.Term.{Term, out-Term}
use Rattle.esto_term.specs.declared.term.Term.TheOpen.{Term-F}
use Rattle.esto_semantics.specs.Facts.{terms_of}
use Rattle.esto_semantics.specs.declared.fact.Fact.{Fact}
use Rattle.esto_semantics.specs.Spreads.{substituted}
use Rattle.esto_chase_laws.specs.Worlds.{Linked}
use Rattle.esto_chase_laws.specs.declared.entry.Claim.{Claim}
use Rattle.esto_chase_laws.specs.declared.entry.Claim.TheVariants.{Fact as Stated, Same}

-- Of a term, by its level, and another one: the term itself where it is a constant, else the other one.
abbrev pub unless_constant : Term-F Term → Term → Term → Term
unless_constant (Term-F.Const _) term other = term
unless_constant (Term-F.Plain _) term other = other
unless_constant (Term-F.Made _ _ _) term other = other

-- The term that a term meets first: for a constant itself, for any other the one in `to` at the first place at which it stands in `from`.
abbrev pub taken : List Term → List Term → Term → Term
taken from to term = unless_constant (out-Term term) term (substituted from to term)

-- The terms are equal, or they are the sides of one equality that holds.
abbrev pub Touching : (Claim → Type 0) → Term → Term → Type 0
Touching Holds term other = (term ≡ other) ⊎ (Holds (Same term other) ⊎ Holds (Same other term))

-- Each of the terms `to` is one with what the term at its place in `from` meets first.
abbrev pub Fits : (Term → Term → Type 0) → List Term → List Term → Type 0
Fits One from to = AllZip One to (map (taken from to) from)

-- The fact has the atom's relation and length.
abbrev pub IsLike : Fact Term → Fact Term → Type 0
IsLike atom fact = (fact.relation ≡ atom.relation) × (length fact.terms ≡ length atom.terms)

-- For each atom of the body a fact that holds is chosen, of its relation and length.
abbrev pub AreChosen : (Claim → Type 0) → List (Fact Term) → List (Fact Term) → Type 0
AreChosen Holds body chosen =
    AllZip (λ (atom : Fact Term) (fact : Fact Term).
    Holds (Stated fact) × (fact.relation ≡ atom.relation) × (length fact.terms ≡ length atom.terms)) body chosen

-- The map of a match: each term of the body goes to the one that it meets first in the chosen facts.
abbrev pub match_map : List (Fact Term) → List (Fact Term) → Term → Term
match_map body chosen = taken (terms_of body) (terms_of chosen)

-- The chosen facts match the body where linked terms count as one: all terms under one variable are one, and each term under a constant is one with it.
abbrev pub IsMatch : (Claim → Type 0) → List (Fact Term) → List (Fact Term) → Type 0
IsMatch Holds body chosen = AreChosen Holds body chosen × Fits (Linked Holds) (terms_of body) (terms_of chosen)

-- They match it with at most one equality at each place.
abbrev pub IsDirectMatch : (Claim → Type 0) → List (Fact Term) → List (Fact Term) → Type 0
IsDirectMatch Holds body chosen = AreChosen Holds body chosen × Fits (Touching Holds) (terms_of body) (terms_of chosen)
