use Rattle.std.proofs.Common.{[], ◌++◌, get_or}
use Rattle.esto_term.proofs.ListLemmas.{HoldsBelow}
use Rattle.esto_steps.specs.Meaning.{IsMet}
use Rattle.esto_steps.proofs.codes.each_passed.Given as goal

abbrev pub invariant-links : goal.invariant-links
invariant-links l = HoldsBelow (λ _ link. IsMet (get_or l.so_far.rows l.pair.left [] ++ get_or l.rows.rows l.pair.right []) (get_or l.rows.rows l.pair.right []) link) l.link-items l.link-index
