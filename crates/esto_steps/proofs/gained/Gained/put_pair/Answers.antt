use Rattle.std.proofs.Common.{◌≡◌, refl}
use Rattle.std.proofs.lemmas.List.Elements.{Contains-append_right}
use Rattle.std.proofs.lemmas.Result.{on_ok_weaker}
use Rattle.esto_steps.specs.Paired.{Gained, kept_of, kept_rows, gained_rows}
use Rattle.esto_steps.proofs.GainLemmas.{same_gains, pair_pushed, gains_settled}
use Rattle.esto_steps.proofs.gained.Gained.put_pair.Goals as goal

pub returns-then-has_near-clause-rows : goal.returns-then-has_near-clause-rows
returns-then-has_near-clause-rows c =
    let own = gained_rows c.args.kept.now c.args.so_far.now c.args.rows.now c.args.self.now in
    let code = kept_of c.args.kept.now c.args.so_far.now c.args.rows.now c.args.pair in
    same_gains own own code refl
    (Contains-append_right c.args.self.now.own.rows (kept_rows c.args.kept.now c.args.so_far.now c.args.rows.now c.args.self.now.pairs) code
    (c.has_near.ensures c.if-has_near.true))

pub returns-clause-rows : goal.returns-clause-rows
returns-clause-rows c =
    let before : Gained = record { own = c.self.inside.own; pairs = c.self.inside.pairs } in
    let after : Gained = record { own = c.self.inside.own; pairs = c.push.new.self } in
    on_ok_weaker c.settle.result
    (gains_settled c.args.kept.now c.args.so_far.now c.args.rows.now c.args.self.now before after c.settle.new.self
    (λ it. kept_of c.args.kept.now c.args.so_far.now c.args.rows.now c.args.pair ≡ it) c.self.view_is
    (pair_pushed c.args.kept.now c.args.so_far.now c.args.rows.now before after c.args.pair refl c.in_ok-push.ensures.ok))
    c.settle.ensures.rows
