-- Hashes of the kinds of terms.
use Rattle.std.proofs.Common.{◌≡◌, ℕ, ◌+◌, ◌<◌, List, map, drop, length, get_or, sym, ap, ◌∙◌, add-one}
use Rattle.std.proofs.Math.Seq.{drop-cons}
use Rattle.esto_term.specs.declared.term.Term.{Term, fold-roll-Term}
use Rattle.esto_term.specs.declared.term.Term.TheOpen.{Term-F}
use Rattle.esto_term.specs.declared.term.Term.TheVariants.{Const, Plain, Made, rolls-Const, rolls-Plain, rolls-Made}
use Rattle.esto_table.specs.Hashes.{mixed, hash_from, level_hash, term_hash}

pub term_hash-Const : (text : List ℕ) → term_hash (Const text) ≡ hash_from 1 text
term_hash-Const text = ap term_hash (sym (rolls-Const text)) ∙ fold-roll-Term ℕ level_hash (Term-F.Const text)

pub term_hash-Plain : (number : ℕ) → term_hash (Plain number) ≡ mixed 2 number
term_hash-Plain number = ap term_hash (sym (rolls-Plain number)) ∙ fold-roll-Term ℕ level_hash (Term-F.Plain number)

pub term_hash-Made : (rule variable : ℕ) (frontier : List Term)
    → term_hash (Made rule variable frontier) ≡ hash_from (mixed (mixed 3 rule) variable) (map term_hash frontier)
term_hash-Made rule variable frontier =
    ap term_hash (sym (rolls-Made rule variable frontier)) ∙ fold-roll-Term ℕ level_hash (Term-F.Made rule variable frontier)

-- a walk over a frontier takes one hash from what is left into the hash so far
pub hash_step : (frontier : List Term) (place : ℕ) (part : Term) (so_far all : ℕ) → place < length frontier → part ≡ get_or frontier place part
    → all ≡ hash_from so_far (map term_hash (drop place frontier))
    → all ≡ hash_from (mixed so_far (term_hash part)) (map term_hash (drop (place + 1) frontier))
hash_step frontier place part so_far all within is known =
    rw (add-one place) (rw (drop-cons frontier place part within, ← is) at known)
