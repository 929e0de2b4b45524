use Rattle.std.proofs.Common.{List, ◌∷◌, length}
use Rattle.esto_text.specs.Grammar.{IsTerm, IsRow}
use Rattle.esto_text.specs.Machine.{Symbol, ATerm, MoreTerms}
use Rattle.esto_text.proofs.RowLemmas.{Goes}
use Rattle.esto_text.proofs.rows.terms.Given as goal

abbrev pub invariant-terms : goal.invariant-terms
invariant-terms l = (s : List Symbol) → Goes (IsRow IsTerm) (ATerm ∷ MoreTerms ∷ s) s l.tokens l.terms l.rest l.more

abbrev pub decreases-terms : goal.decreases-terms
decreases-terms l = length l.rest
