use Rattle.std.proofs.Common.{arith, sym, subst, ◌∙◌}
use Rattle.std.proofs.lemmas.Bool.Decides.{nat_tests}
use Rattle.std.proofs.lemmas.Option.{slice_get_within, same_Some}
use Rattle.esto_term.specs.Sets.{Covers}
use Rattle.esto_term.proofs.ListLemmas.{Contains-at}
use Rattle.esto_chase_laws.specs.declared.entry.Entry.{Entry}
use Rattle.esto_known.proofs.CoverLemmas.{read_at}
use Rattle.esto_condchase.proofs.joining.is_closed.Goals as goal

pub returns-in-None : goal.returns-in-None
returns-in-None c closed entry at = absurd
    (let below = slice_get_within c.args.entries.now c.args.place entry at in let past = c.in-None.ensures.lookup in grind (arith, nat_tests, below, past))

pub covered-requires : goal.covered-requires
covered-requires c = c.requires c.in-Some.entry.now (Contains-at c.args.entries.now c.args.place c.in-Some.entry.now
    (read_at c.args.entries.now c.args.place c.in-Some.entry.now c.in-Some.ensures.lookup.0 c.in-Some.ensures.lookup.1))

pub returns-in-Some : goal.returns-in-Some
returns-in-Some c closed entry at = subst (λ (it : Entry). Covers c.args.sets.now.sets it.product)
    (same_Some c.in-Some.entry.now entry (sym (read_at c.args.entries.now c.args.place c.in-Some.entry.now c.in-Some.ensures.lookup.0
    c.in-Some.ensures.lookup.1) ∙ at)) (c.covered.ensures.0 closed)
