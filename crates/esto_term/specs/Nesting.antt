-- How deep made terms nest.
use Rattle.std.specs.Prelude.{ℕ, ◌+◌, max, min, List, [], ◌∷◌}
use Rattle.esto_term.specs.declared.term.Term.{Term}
use Rattle.esto_term.specs.declared.term.Term.TheFolds.{fold-Term}
use Rattle.esto_term.specs.declared.term.Term.TheOpen.{Term-F}

-- The greatest `u64` is 2 ^ 64 - 1.
abbrev pub greatest_u64 : ℕ
greatest_u64 = 18446744073709551615

-- One level deeper is 1 more, but the greatest `u64` stays as it is.
abbrev pub one_deeper : ℕ → ℕ
one_deeper nesting = min (nesting + 1) greatest_u64

-- What stands above terms of these nestings is one deeper than the deepest of them, and 0 deep above none.
abbrev pub nesting_above : List ℕ → ℕ
nesting_above [] = 0
nesting_above (first ∷ rest) = max (one_deeper first) (nesting_above rest)

-- The nesting of one level of a term, from the nestings of its frontier terms.
abbrev pub level_nesting : Term-F ℕ → ℕ
level_nesting (Term-F.Const _) = 0
level_nesting (Term-F.Plain _) = 0
level_nesting (Term-F.Made _ _ nestings) = nesting_above nestings

-- A constant and a plain term nest 0 deep, and a made term nests as deep as its frontier makes it.
abbrev pub nesting : Term → ℕ
nesting = fold-Term ℕ level_nesting
