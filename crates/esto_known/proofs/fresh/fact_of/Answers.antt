use Rattle.std.proofs.Common.{◌≡◌, Some, slice_get, sym, ap, subst, ◌∙◌}
use Rattle.std.proofs.lemmas.Option.{same_Some}
use Rattle.esto_chase_laws.specs.declared.entry.Claim.TheVariants.{Fact as Stated, Same}
use Rattle.esto_chase_laws.specs.declared.entry.Entry.{Entry}
use Rattle.esto_known.proofs.CoverLemmas.{read_at}
use Rattle.esto_known.proofs.fresh.fact_of.Goals as goal

pub returns-in-Fact : goal.returns-in-Fact
returns-in-Fact c =
    let there = read_at c.items.result.now c.args.place c.in-Some.entry.now c.in-Some.ensures.lookup.0 c.in-Some.ensures.lookup.1 in
    (c.in-Some.entry.now, subst (λ its. slice_get its c.args.place ≡ Some c.in-Some.entry.now) c.items.ensures there, c.in-Fact.is)

pub returns-in-Same : goal.returns-in-Same
returns-in-Same c entry fact at is =
    let there = read_at c.items.result.now c.args.place c.in-Some.entry.now c.in-Some.ensures.lookup.0 c.in-Some.ensures.lookup.1 in
    let here = same_Some c.in-Some.entry.now entry (sym (subst (λ its. slice_get its c.args.place ≡ Some c.in-Some.entry.now) c.items.ensures there) ∙ at) in
    let wrong : Same c.in-Same.field-0 c.in-Same.field-1 ≡ Stated fact = sym c.in-Same.is ∙ ap (λ (it : Entry). it.claim) here ∙ is in
    cc
