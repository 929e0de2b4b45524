use Rattle.std.proofs.Common.{inl, sym, ◌∙◌}
use Rattle.std.proofs.lemmas.Result.{on_ok_weaker}
use Rattle.esto_term.proofs.ListLemmas.{Contains-at}
use Rattle.esto_known.proofs.CoverLemmas.{read_at}
use Rattle.esto_known.proofs.covering.add_at.Goals as goal

pub add-requires : goal.add-requires
add-requires c entry inside =
    let at = read_at c.args.asked.now c.args.turn.now.place c.in-Some.entry.now c.in-Some.ensures.lookup.0 c.in-Some.ensures.lookup.1 in
    c.requires.counts entry inside ∙ sym (c.requires.asked c.in-Some.entry.now (Contains-at c.args.asked.now c.args.turn.now.place c.in-Some.entry.now at))

pub returns : goal.returns
returns c = on_ok_weaker c.add.result (λ added. inl (
  c.in-Some.entry.now,
  read_at c.args.asked.now c.args.turn.now.place c.in-Some.entry.now c.in-Some.ensures.lookup.0 c.in-Some.ensures.lookup.1,
  added,
)) c.add.ensures
