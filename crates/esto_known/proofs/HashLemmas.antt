-- Laws of hashes.
use Rattle.std.proofs.Common.{◌≡◌, ℕ, ◌+◌, ◌<◌, ◌≤◌, List, map, drop, length, get_or, sym, ap, ◌∙◌}
use Rattle.std.proofs.lemmas.List.{drop_all}
use Rattle.esto_term.specs.declared.term.Term.{Term, fold-roll-Term}
use Rattle.esto_term.specs.declared.term.Term.TheOpen.{Term-F}
use Rattle.esto_term.specs.declared.term.Term.TheVariants.{Const, Plain, Made, rolls-Const, rolls-Plain, rolls-Made}
use Rattle.esto_term.proofs.PlaceLemmas.{drop-item}
use Rattle.esto_columns.specs.Indexed.{mixed, hash_from}
use Rattle.esto_known.specs.Hashes.{term_hash, level_hash}

pub hash-Const : (bytes : List ℕ) → term_hash (Const bytes) ≡ hash_from 0 bytes
hash-Const bytes = ap term_hash (sym (rolls-Const bytes)) ∙ fold-roll-Term ℕ level_hash (Term-F.Const bytes)

pub hash-Plain : (number : ℕ) → term_hash (Plain number) ≡ mixed 1 number
hash-Plain number = ap term_hash (sym (rolls-Plain number)) ∙ fold-roll-Term ℕ level_hash (Term-F.Plain number)

pub hash-Made : (rule variable : ℕ) (frontier : List Term)
    → term_hash (Made rule variable frontier) ≡ hash_from (mixed (mixed 2 rule) variable) (map term_hash frontier)
hash-Made rule variable frontier =
    ap term_hash (sym (rolls-Made rule variable frontier)) ∙ fold-roll-Term ℕ level_hash (Term-F.Made rule variable frontier)

-- one term more is taken into a hash
pub hash_more : (terms : List Term) (place : ℕ) (term : Term) (all so_far hash : ℕ) → place < length terms → term ≡ get_or terms place term
    → all ≡ hash_from so_far (map term_hash (drop place terms)) → hash ≡ mixed so_far (term_hash term)
    → all ≡ hash_from hash (map term_hash (drop (place + 1) terms))
hash_more terms place term all so_far hash within is known mixes =
    known ∙ ap (λ them. hash_from so_far (map term_hash them)) (drop-item terms place term within is)
    ∙ ap (λ it. hash_from it (map term_hash (drop (place + 1) terms))) (sym mixes)

-- and all are in it at the end
pub hash_all : (terms : List Term) (place all hash : ℕ) → length terms ≤ place → all ≡ hash_from hash (map term_hash (drop place terms)) → hash ≡ all
hash_all terms place all hash past known = sym (known ∙ ap (λ them. hash_from hash (map term_hash them)) (drop_all place terms past))
