-- Rows whose names rise strictly in order of bytes, as the fields of an object do.
use Rattle.std.specs.Prelude.{◌≡◌, List}
use Rattle.std.specs.Cmp.Lexicographic.{slice_cmp}
use Rattle.std.specs.Ordering.{nat_cmp}
use Rattle.std.specs.declared.cmp.Ordering.TheVariants.{Less}
use Rattle.esto_docmodel.specs.Forests.{Label, name, place, Forest, none, kid}
use Rattle.esto_docmodel.specs.Shapes.{documents}
use Rattle.esto_docmodel.specs.declared.tree.Tree.{Tree}

-- A name may stand before a greater one, and an item before an item.
abbrev pub Precedes : Label → Label → Type 0
Precedes (name c) (name d) = slice_cmp nat_cmp c d ≡ Less
Precedes (name c) place = ⊥
Precedes place (name d) = ⊥
Precedes place place = Unit {0}

-- A label may stand before the first of a row.
abbrev pub PrecedesRow : Label → Forest → Type 0
PrecedesRow l none = Unit {0}
PrecedesRow l (kid k t i rest) = Precedes l k

-- Each label of a row may stand before the next, and so inside.
abbrev pub IsRising : Forest → Type 0
IsRising none = Unit {0}
IsRising (kid l t i rest) = PrecedesRow l rest × (IsRising i × IsRising rest)

-- The fields of each object in the trees stand in rising order of their names, each name once.
abbrev pub AreRising : List Tree → Type 0
AreRising trees = IsRising (documents trees)

-- Inside each tree of the row the names rise.
abbrev pub AreInside : Forest → Type 0
AreInside none = Unit {0}
AreInside (kid l t i rest) = IsRising i × AreInside rest
