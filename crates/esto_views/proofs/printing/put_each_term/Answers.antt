use Rattle.std.proofs.Common.{◌++◌}
use Rattle.esto_term.proofs.ListLemmas.{two_more}
use Rattle.esto_views.specs.Printing.{comma_before, term_text}
use Rattle.esto_views.proofs.PrintingLemmas.{each_turn, each_end}
use Rattle.esto_views.proofs.printing.put_each_term.Goals as goal

pub terms-preserved : goal.terms-preserved
terms-preserved c =
    each_turn (λ place term. comma_before place ++ term_text c.args.names.now c.args.nameless.now term) c.args.terms.now c.terms.place _ c.terms.text
    c.terms.invariant c.index-terms-place.result c.put_term.new.text c.terms-test.true c.index-terms-place.is
    (two_more c.terms.text c.put_comma.new.text c.put_term.new.text (comma_before c.terms.place)
    (term_text c.args.names.now c.args.nameless.now c.index-terms-place.result) c.in_ok-put_comma.ensures c.in_ok-put_term.ensures)

pub returns : goal.returns
returns c = each_end (λ place term. comma_before place ++ term_text c.args.names.now c.args.nameless.now term) c.args.terms.now c.terms.place _ c.terms.text
    c.terms.invariant c.terms-test.false
