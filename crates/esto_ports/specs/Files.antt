-- Files by name.
use Rattle.std.specs.Prelude.{◌≡◌, ℕ, List, Option, Some, None}
use Rattle.std.specs.Ordering.{nat_cmp}
use Rattle.std.specs.Cmp.Lexicographic.{slice_cmp}
use Rattle.std.specs.FinMap.{FinMap, get}

-- A finite map from names to bytes.
abbrev pub Files : Type 0
Files = FinMap (slice_cmp nat_cmp) (List ℕ)

-- Where the files are told, the file of that name has these bytes.
abbrev pub Holds : Option Files → List ℕ → List ℕ → Type 0
Holds None name bytes = Unit {0}
Holds (Some m) name bytes = get m name ≡ Some bytes
