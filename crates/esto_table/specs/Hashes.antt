-- Hashes of terms, by which places are found.
use Rattle.std.specs.Prelude.{◌+◌, ◌*◌, ◌%◌, ◌^◌, ℕ, List, [], ◌∷◌}
use Rattle.esto_term.specs.declared.term.Term.{Term}
use Rattle.esto_term.specs.declared.term.Term.TheFolds.{fold-Term}
use Rattle.esto_term.specs.declared.term.Term.TheOpen.{Term-F}

-- The hash with more taken into it.
unfoldable pub mixed : ℕ → ℕ → ℕ
mixed hash more = ((hash * 11400714819323198485) % 2 ^ 64 + more) % 2 ^ 64

-- The hash with each of the numbers taken into it.
abbrev pub hash_from : ℕ → List ℕ → ℕ
hash_from hash [] = hash
hash_from hash (more ∷ rest) = hash_from (mixed hash more) rest

-- The hash of one level of a term, from the hashes of its frontier terms.
abbrev pub level_hash : Term-F ℕ → ℕ
level_hash (Term-F.Const text) = hash_from 1 text
level_hash (Term-F.Plain number) = mixed 2 number
level_hash (Term-F.Made rule variable hashes) = hash_from (mixed (mixed 3 rule) variable) hashes

-- The hash of a term.
abbrev pub term_hash : Term → ℕ
term_hash = fold-Term ℕ level_hash
