use Rattle.std.proofs.Common.{List, ◌∷◌, length}
use Rattle.esto_text.specs.Machine.{Symbol, AnItem, MoreBody}
use Rattle.esto_text.proofs.RowLemmas.{Goes}
use Rattle.esto_text.proofs.RuleLemmas.{AreRuleItems}
use Rattle.esto_text.proofs.rule.body.Given as goal

abbrev pub invariant-items : goal.invariant-items
invariant-items l = (s : List Symbol) → Goes AreRuleItems (AnItem ∷ MoreBody ∷ s) s l.tokens l.items l.rest l.more

abbrev pub decreases-items : goal.decreases-items
decreases-items l = length l.rest
