-- Numbers of terms, by which places are found: hashes, or, where hashes clash, ranks among names.
use Rattle.std.specs.Prelude.{◌≡◌, ◌≢◌, ℕ, ◌<◌, ◌≤◌, List, [], ◌∷◌, length, slice_index_or}
use Rattle.std.specs.declared.cmp.Ordering.TheVariants.{Less}
use Rattle.esto_term.specs.Order.{term_cmp}
use Rattle.esto_term.specs.declared.term.Term.{Term}
use Rattle.esto_table.specs.Hashes.{mixed, term_hash}

-- No name comes after a greater one.
abbrev pub AreInOrder : List Term → Type 0
AreInOrder names =
    (i j : ℕ) (d : Term) → i ≤ j → j < length names → term_cmp (slice_index_or names j d) (slice_index_or names i d) ≢ Less

-- So many names, those that come first, come before the term.
pub record IsRank (names : List Term) (term : Term) (rank : ℕ) : Type 0 where
  pub within : rank ≤ length names
  pub before : (k : ℕ) (d : Term) → k < rank → k < length names → term_cmp (slice_index_or names k d) term ≡ Less
  pub after : (k : ℕ) (d : Term) → rank ≤ k → k < length names → term_cmp (slice_index_or names k d) term ≢ Less

-- The number of a term: its hash, or, where there are names, its rank among them.
abbrev pub IsNumber : List Term → Term → ℕ → Type 0
IsNumber [] term number = number ≡ term_hash term
IsNumber (name ∷ names) term number = IsRank (name ∷ names) term number

-- The key of a term's number in a column of a relation.
abbrev pub key_of : ℕ → ℕ → ℕ → ℕ
key_of relation column number = mixed (mixed number relation) column
