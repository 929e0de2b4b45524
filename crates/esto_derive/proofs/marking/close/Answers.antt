use Rattle.std.proofs.Common.{◌-◌, ◌∙◌, length, inl, refl, arith}
use Rattle.std.proofs.lemmas.Option.{slice_get_read}
use Rattle.esto_derive.proofs.MarkLemmas.{closed_on, only_on, within_on, named_before}
use Rattle.esto_derive.proofs.marking.close.Goals as goal

pub put_behind-requires-clause-named : goal.put_behind-requires-clause-named
put_behind-requires-clause-named c = λ named inside.
    let at = slice_get_read c.args.entries.now (length c.args.entries.now) (c.entries.place - 1) c.index-entries-place.result refl
    (omega (arith, c.entries-test.true, c.entries.auto.place)) c.index-entries-place.is in
    omega (
      arith,
      named_before c.args.entries.now c.requires.reasoned (c.entries.place - 1) c.index-entries-place.result at named inside,
      c.entries-test.true,
      c.entries.auto.place,
      c.entries.invariant.count,
      c.requires.count,
    )

pub entries-preserved : goal.entries-preserved
entries-preserved c =
    let at = slice_get_read c.args.entries.now (length c.args.entries.now) (c.entries.place - 1) c.index-entries-place.result refl
    (omega (arith, c.entries-test.true, c.entries.auto.place)) c.index-entries-place.is in
    record {
      count = c.put_behind.ensures.count ∙ c.entries.invariant.count;
      keeps = λ place has. (c.in_ok-put_behind.ensures.adds place).1 (inl (c.entries.invariant.keeps place has));
      only = only_on c.args.entries.now c.requires.reasoned (c.entries.place - 1) c.index-entries-place.result at c.entries.used c.put_behind.new.used
          c.in_ok-put_behind.ensures.adds c.args.used.now c.entries.invariant.only;
      closed = closed_on c.args.entries.now c.requires.reasoned (c.entries.place - 1) c.index-entries-place.result at c.entries.used c.put_behind.new.used
          c.in_ok-put_behind.ensures.adds
          (λ place entry from. c.entries.invariant.closed place entry (omega (arith, from, c.entries-test.true)));
      within = λ set within.
          within_on c.args.entries.now c.requires.reasoned (c.entries.place - 1) c.index-entries-place.result at c.entries.used c.put_behind.new.used
          c.in_ok-put_behind.ensures.adds set (c.entries.invariant.within set within);
    }
