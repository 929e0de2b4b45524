use Rattle.std.proofs.Common.{◌∙◌, refl, sym}
use Rattle.std.proofs.lemmas.Result.{on_ok_weaker}
use Rattle.esto_term.proofs.PlaceLemmas.{item_at}
use Rattle.esto_condchase.proofs.KnownLemmas.{reach_at, reached_at}
use Rattle.esto_condchase.proofs.reached.add_at.Goals as goal

pub add_both-requires-clause-sets : goal.add_both-requires-clause-sets
add_both-requires-clause-sets c =
    c.requires.sets ∙ sym (c.requires.counted c.index_mut.result.now (c.args.place, c.requires.place, sym c.index_mut.ensures.value))

pub add_both-requires-clause-others : goal.add_both-requires-clause-others
add_both-requires-clause-others c =
    c.requires.others ∙ sym (c.requires.counted c.index_mut.result.now (c.args.place, c.requires.place, sym c.index_mut.ensures.value))

pub returns-clause-counted : goal.returns-clause-counted
returns-clause-counted c =
    let one = c.index_mut.result.now in
    on_ok_weaker c.add_both.result (λ covers.
    reached_at c.args.ones.now.items c.args.place c.requires.place one (record { to = one.to; by = c.add_both.new.self }) (sym c.index_mut.ensures.value)
    c.args.count _ refl (c.add_both.ensures.count ∙ c.requires.counted one (c.args.place, c.requires.place, sym c.index_mut.ensures.value))
    c.requires.counted) c.add_both.ensures.covers

pub returns-clause-reach : goal.returns-clause-reach
returns-clause-reach c =
    let one = c.index_mut.result.now in
    on_ok_weaker c.add_both.result (λ covers. (
      one,
      item_at c.args.ones.now.items c.args.place one c.requires.place c.index_mut.ensures.value,
      reach_at c.args.ones.now.items c.args.place c.requires.place one (record { to = one.to; by = c.add_both.new.self }) (sym c.index_mut.ensures.value)
          c.args.sets.now.sets c.args.others.now.sets _ refl refl covers,
    )) c.add_both.ensures.covers
