use Rattle.std.proofs.Common.{List, ◌∷◌, ◌-◌, length, length}
use Rattle.esto_text.specs.Grammar.{IsName, IsRow}
use Rattle.esto_text.specs.Limits.{limited_row}
use Rattle.esto_text.specs.Machine.{Symbol, AName, MoreNames}
use Rattle.esto_text.proofs.RowLemmas.{Goes}
use Rattle.esto_text.proofs.HeadLemmas.{rest_of}
use Rattle.esto_text.proofs.rows.names.Given as goal

abbrev pub invariant-names : goal.invariant-names
invariant-names l = (s : List Symbol) → Goes (IsRow IsName) (AName ∷ MoreNames ∷ s) s (limited_row 32 l.tokens) l.names
    (rest_of l.more (32 - length l.names) l.rest) l.more

abbrev pub decreases-names : goal.decreases-names
decreases-names l = length l.rest
