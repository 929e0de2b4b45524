-- Hashes of terms and of claims.
use Rattle.std.specs.Prelude.{ℕ, List, [], ◌∷◌, map, max, min}
use Rattle.esto_term.specs.declared.term.Term.{Term}
use Rattle.esto_term.specs.declared.term.Term.TheFolds.{fold-Term}
use Rattle.esto_term.specs.declared.term.Term.TheOpen.{Term-F}
use Rattle.esto_semantics.specs.declared.fact.Fact.{Fact}
use Rattle.esto_columns.specs.Indexed.{mixed, hash_from}
use Rattle.esto_chase_laws.specs.declared.entry.Claim.{Claim}
use Rattle.esto_chase_laws.specs.declared.entry.Claim.TheVariants.{Fact as Stated, Same}

-- The hash of one level of a term, from the hashes of its frontier terms.
abbrev pub level_hash : Term-F ℕ → ℕ
level_hash (Term-F.Const bytes) = hash_from 0 bytes
level_hash (Term-F.Plain number) = mixed 1 number
level_hash (Term-F.Made rule variable hashes) = hash_from (mixed (mixed 2 rule) variable) hashes

-- The hash of a term.
abbrev pub term_hash : Term → ℕ
term_hash = fold-Term ℕ level_hash

-- The hash of a relation.
abbrev pub relation_hash : ℕ → ℕ
relation_hash relation = mixed 3 relation

-- The hash of a fact.
abbrev pub fact_hash : Fact Term → ℕ
fact_hash fact = hash_from (relation_hash fact.relation) (map term_hash fact.terms)

-- The hash of two hashes in either order.
abbrev pub pair_hash : ℕ → ℕ → ℕ
pair_hash one other = mixed (max one other) (min one other)

-- The key of a claim.
abbrev pub claim_key : Claim → List ℕ
claim_key (Stated fact) = fact_hash fact ∷ []
claim_key (Same left right) = pair_hash (term_hash left) (term_hash right) ∷ []

-- The key of a fact's relation, and of the first side of an equality.
abbrev pub first_key : Claim → List ℕ
first_key (Stated fact) = relation_hash fact.relation ∷ []
first_key (Same left right) = term_hash left ∷ []

-- The key of a fact's relation, and of the second side of an equality.
abbrev pub second_key : Claim → List ℕ
second_key (Stated fact) = relation_hash fact.relation ∷ []
second_key (Same left right) = term_hash right ∷ []
