use Rattle.esto_term.proofs.OrderLemmas.{term_cmp_total}
use Rattle.esto_term.proofs.CompareLemmas.{term_cmp-Equal}
use Rattle.esto_term.proofs.term.terms_are_ordered.Goals as goal

pub returns : goal.returns
returns c = record { total = term_cmp_total; exact = term_cmp-Equal }
