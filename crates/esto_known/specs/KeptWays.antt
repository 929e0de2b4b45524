-- Ways that are kept.
use Rattle.std.specs.Prelude.{◌≡◌, ◌<◌, ◌++◌, ℕ, Bool, List, length, Contains}
use Rattle.esto_term.specs.declared.term.Term.{Term}
use Rattle.esto_term.specs.Sets.{Within}
use Rattle.esto_known.specs.declared.way.Way.{Way}
use Rattle.esto_known.specs.Told.{AgreeAt}

-- Each way's product has the count.
abbrev pub AreCounted : ℕ → List Way → Type 0
AreCounted count ways = (way : Way) → Contains ways way → length way.product ≡ count

-- Some way has the same at the places, with a product within the set.
abbrev pub HasWay : List ℕ → List Way → List Term → List Bool → Type 0
HasWay places ways to set = (way : Way) × Contains ways way × AgreeAt places way.to to × Within way.product set

-- All entries that the way uses are among the first few.
abbrev pub IsOldWay : ℕ → Way → Type 0
IsOldWay since way = (place : ℕ) → Contains (way.facts ++ way.links) place → place < since
