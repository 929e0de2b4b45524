use Rattle.std.proofs.Common.{sym, ◌∙◌, ap, arith}
use Rattle.std.specs.Ordering.{is_eq}
use Rattle.std.proofs.lemmas.Bool.Decides.{nat_tests}
use Rattle.esto_views.proofs.IndexLemmas.{first-same, first-other, first-past, equal_told, apart_told}
use Rattle.esto_views.proofs.index.first_place.Goals as goal

pub returns-in_err-entry : goal.returns-in_err-entry
returns-in_err-entry c =
    rw c.from_residual.ensures (first-past c.args.index.now c.args.term.now c.requires c.lesser_entries-first.result c.lesser_entries-first.ensures
    (grind (arith, nat_tests, c.in_err-entry.ensures.lookup)))

pub returns-then-is_eq : goal.returns-then-is_eq
returns-then-is_eq c =
    first-same c.args.index.now c.args.term.now c.requires c.lesser_entries-first.result c.lesser_entries-first.ensures c.in_ok-entry.entry.now
    c.in_ok-entry.ensures.lookup.0 c.in_ok-entry.ensures.lookup.1
    (equal_told c.in_ok-entry.entry.now.term.now c.args.term.now (ap is_eq (sym c.compare.ensures) ∙ sym c.if-is_eq.ensures))

pub returns-else-is_eq : goal.returns-else-is_eq
returns-else-is_eq c =
    first-other c.args.index.now c.args.term.now c.requires c.lesser_entries-first.result c.lesser_entries-first.ensures c.in_ok-entry.entry.now
    c.in_ok-entry.ensures.lookup.0 c.in_ok-entry.ensures.lookup.1
    (apart_told c.in_ok-entry.entry.now.term.now c.args.term.now (ap is_eq (sym c.compare.ensures) ∙ sym c.if-is_eq.ensures))
