use Rattle.std.proofs.Common.{List, ◌≡◌, ◌++◌, inl, inr, length, None, subst, refl, sym, ap, ◌∙◌, arith}
use Rattle.std.proofs.lemmas.List.{length-append}
use Rattle.std.proofs.lemmas.Result.{IfOk-weaker}
use Rattle.esto_term.proofs.ListLemmas.{each_more, each_seen}
use Rattle.esto_term.specs.declared.term.Term.{Term}
use Rattle.esto_semantics.specs.declared.fact.Fact.{Fact}
use Rattle.esto_chase_laws.specs.Worlds.{InWorld}
use Rattle.esto_chase_laws.specs.declared.entry.Entry.{Entry}
use Rattle.esto_derive.specs.Searching.{IsFound, IsFoundBy}
use Rattle.esto_derive.proofs.FoundLemmas.{fits_then, found_by, found_if_one, found_none, found_nothing, row_of}
use Rattle.esto_derive.proofs.world.World.+find.Goals as goal

pub find-entries-preserved : goal.find-entries-preserved
find-entries-preserved t c =
    let it = c.args.self.now in
    each_more (λ (entry : Entry). IsFoundBy it.entries.now it.set.now c.args.from.now c.args.to.now c.in-Some.atom.now c.in-Some.rest.now entry None)
    it.entries.now c.entries.place c.entry-item.result c.entries-test.true c.entry-item.is
    (found_nothing it.entries.now it.set.now c.args.from.now c.args.to.now c.requires.lengths c.in-Some.atom.now c.in-Some.rest.now c.entry-item.result
    c.in_ok-found.found c.in_ok-found.ensures (sym c.is_some.ensures ∙ c.if-is_some.false))
    c.entries.invariant

pub find-returns : goal.find-returns
find-returns t c =
    let it = c.args.self.now in
    subst (λ (body : List (Fact Term)). IsFound it.entries.now it.set.now c.args.from.now c.args.to.now body None) (sym c.in-Some.ensures.cases.0)
    (found_none it.entries.now it.set.now c.args.from.now c.args.to.now c.requires.lengths c.in-Some.atom.now c.in-Some.rest.now
    (each_seen (λ (entry : Entry). IsFoundBy it.entries.now it.set.now c.args.from.now c.args.to.now c.in-Some.atom.now c.in-Some.rest.now entry None)
    it.entries.now c.entries.place (omega (arith, c.entries-test.false)) c.entries.invariant))

pub find_after-find_if_one-requires : goal.find_after-find_if_one-requires
find_after-find_if_one-requires t c =
    let it = c.args.self.now in
    let longer_is : c.in_ok-longer.longer ≡ c.args.from.now ++ c.args.atom.now.terms = c.in_ok-longer.ensures
    ∙ (λ i. c.items.ensures i ++ c.items-2.ensures i) in
    let met_is : c.in_ok-met.met ≡ c.args.to.now ++ c.args.fact.now.terms = c.in_ok-met.ensures ∙ (λ i. c.items-3.ensures i ++ c.items-4.ensures i) in
    let lengths : length c.in_ok-longer.longer ≡ length c.in_ok-met.met =
    omega (
      arith,
      ap length longer_is,
      ap length met_is,
      length-append c.args.from.now c.args.atom.now.terms,
      length-append c.args.to.now c.args.fact.now.terms,
      c.requires.lengths,
      (sym c.len.ensures ∙ c.if-len.false ∙ c.len-else-fact-atom.ensures),
    ) in (
      omega (arith, c.decreases),
      (
        c.requires.counts,
        (
          c.requires.links,
          (
            lengths,
            fits_then (InWorld it.entries.now it.set.now) c.args.from.now c.args.to.now c.requires.lengths c.args.atom.now c.args.fact.now c.requires.fits
                c.in_ok-longer.longer c.in_ok-met.met longer_is met_is,
          ),
        ),
      ),
    )

pub find_after-returns : goal.find_after-returns
find_after-returns t c =
    let it = c.args.self.now in
    let longer_is : c.in_ok-longer.longer ≡ c.args.from.now ++ c.args.atom.now.terms = c.in_ok-longer.ensures
    ∙ (λ i. c.items.ensures i ++ c.items-2.ensures i) in
    let met_is : c.in_ok-met.met ≡ c.args.to.now ++ c.args.fact.now.terms = c.in_ok-met.ensures ∙ (λ i. c.items-3.ensures i ++ c.items-4.ensures i) in
    IfOk-weaker c.find_if_one.result _ _
    (λ places found. found_if_one it.entries.now it.set.now c.args.from.now c.args.to.now c.requires.lengths c.args.atom.now c.args.rest.now c.args.fact.now
    c.if-fact-atom.false (sym c.len.ensures ∙ c.if-len.false ∙ c.len-else-fact-atom.ensures) places
    c.in_ok-longer.longer c.in_ok-met.met longer_is met_is found)
    c.find_if_one.ensures

pub find_if_one-find-requires : goal.find_if_one-find-requires
find_if_one-find-requires t c =
    let it = c.args.self.now in
    let row = (row_of (InWorld it.entries.now it.set.now) c.args.from.now c.args.to.now c.args.terms.now c.args.others.now c.items.result.now
    c.items-2.result.now
    c.items-3.result.now c.items-4.result.now c.in_ok-met.met c.items-5.result.now c.items.ensures c.items-2.ensures c.items-3.ensures c.items-4.ensures
    c.in_ok-met.ensures c.items-5.ensures).0 (c.in_ok-fits.ensures.0 c.if-fits.true) in (
      omega (arith, c.decreases),
      (c.requires.counts, (c.requires.links, (c.requires.lengths, c.requires.fits row))),
    )

pub find_if_one-returns-then-fits : goal.find_if_one-returns-then-fits
find_if_one-returns-then-fits t c =
    let it = c.args.self.now in
    let row = (row_of (InWorld it.entries.now it.set.now) c.args.from.now c.args.to.now c.args.terms.now c.args.others.now c.items.result.now
    c.items-2.result.now
    c.items-3.result.now c.items-4.result.now c.in_ok-met.met c.items-5.result.now c.items.ensures c.items-2.ensures c.items-3.ensures c.items-4.ensures
    c.in_ok-met.ensures c.items-5.ensures).0 (c.in_ok-fits.ensures.0 c.if-fits.true) in
    IfOk-weaker c.find.result _ _ (λ places found. inl (row, found)) c.find.ensures

pub find_if_one-returns : goal.find_if_one-returns
find_if_one-returns t c =
    let it = c.args.self.now in
    inr (
      (λ row. let told = c.in_ok-fits.ensures.1 ((row_of (InWorld it.entries.now it.set.now) c.args.from.now c.args.to.now c.args.terms.now c.args.others.now
          c.items.result.now c.items-2.result.now
          c.items-3.result.now c.items-4.result.now c.in_ok-met.met c.items-5.result.now c.items.ensures c.items-2.ensures c.items-3.ensures c.items-4.ensures
          c.in_ok-met.ensures c.items-5.ensures).1 row) in let not_told = c.if-fits.false in cc),
      refl,
    )

pub find_by-returns-in_ok-found-in-Fact : goal.find_by-returns-in_ok-found-in-Fact
find_by-returns-in_ok-found-in-Fact t c =
    let it = c.args.self.now in
    IfOk-weaker c.with_first.result _ _
    (λ found is. subst (IsFoundBy it.entries.now it.set.now c.args.from.now c.args.to.now c.args.atom.now c.args.rest.now c.args.entry.now) (sym is)
    (found_by it.entries.now it.set.now c.args.from.now c.args.to.now c.requires.lengths c.args.atom.now c.args.rest.now
    c.args.entry.now c.args.place c.in-Fact.fact c.requires.at (c.within.ensures.0 c.if-not-within.false) c.in-Fact.is c.in_ok-found-in-Fact.found
    c.in_ok-found-in-Fact.ensures))
    c.with_first.ensures
