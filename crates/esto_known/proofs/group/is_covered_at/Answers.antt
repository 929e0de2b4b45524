use Rattle.std.proofs.Common.{sym, subst, ◌∙◌}
use Rattle.std.proofs.lemmas.Bool.{false≢true}
use Rattle.std.proofs.lemmas.Option.{same_Some}
use Rattle.esto_term.specs.Sets.{Within}
use Rattle.esto_chase_laws.specs.declared.entry.Entry.{Entry}
use Rattle.esto_known.proofs.CoverLemmas.{read_at}
use Rattle.esto_known.proofs.group.is_covered_at.Goals as goal

pub returns-in-None : goal.returns-in-None
returns-in-None c is = absurd (false≢true is)

pub returns-in-Some : goal.returns-in-Some
returns-in-Some c is entry at =
    let there = read_at c.args.entries.now c.args.place c.in-Some.entry.now c.in-Some.ensures.lookup.0 c.in-Some.ensures.lookup.1 in
    subst (λ (it : Entry). Within c.args.product.now it.product) (same_Some c.in-Some.entry.now entry (sym there ∙ at)) (c.within.ensures.0 is)
