use Rattle.std.proofs.Common.{ℕ, ◌<◌, subst, sym}
use Rattle.std.proofs.lemmas.Result.{on_ok_weaker}
use Rattle.esto_derive.proofs.MarkLemmas.{used_with}
use Rattle.esto_derive.proofs.marking.close_with.Goals as goal

pub put_all-requires : goal.put_all-requires
put_all-requires c = λ place inside. subst (λ (it : ℕ). place < it) (sym c.requires.count) (c.requires.links place inside)

pub returns-clause-used : goal.returns-clause-used
returns-clause-used c =
    on_ok_weaker c.close.result
    (λ closes facts are. used_with c.args.entries.now facts c.args.links.now c.args.used.now c.put_all.new.used c.close.new.used are c.in_ok-put_all.ensures.has
    closes)
    c.close.ensures.closes
