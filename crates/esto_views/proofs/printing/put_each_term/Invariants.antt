use Rattle.std.proofs.Common.{◌≡◌, ◌++◌, drop}
use Rattle.esto_views.specs.Printing.{comma_before, each_from, term_text}
use Rattle.esto_views.proofs.printing.put_each_term.Given as goal

abbrev pub invariant-terms : goal.invariant-terms
invariant-terms l =
    l.text ++ each_from (λ place term. comma_before place ++ term_text l.names l.nameless term) l.place (drop l.place l.terms)
    ≡ l.initial.text ++ each_from (λ place term. comma_before place ++ term_text l.names l.nameless term) 0 l.terms
