use Rattle.std.proofs.Common.{Some, map, refl, ap, ◌∙◌}
use Rattle.esto_chase_laws.specs.WorldMatches.{taken}
use Rattle.esto_cert.proofs.JudgeLemmas.{may_end, may_not_end}
use Rattle.esto_cert.proofs.judging.Case.judge_found.Goals as goal

pub returns-then-stand_as_one : goal.returns-then-stand_as_one
returns-then-stand_as_one c = λ claims facts links found.
    may_end claims c.args.self.now.query.now.body c.args.self.now.query.now.body facts links c.args.self.now.query.now.head
    c.args.self.now.targets.now (Some c.args.it.now) refl found c.args.it.now refl c.items-3.result.now c.items-4.result.now c.items-3.ensures
    (c.items-4.ensures ∙ c.in_ok-met.ensures ∙ ap (λ it. map (taken it c.items-2.result.now) c.items-head.result.now) c.items.ensures
    ∙ ap (λ it. map (taken c.args.it.now.from it) c.items-head.result.now) c.items-2.ensures
    ∙ ap (λ it. map (taken c.args.it.now.from c.args.it.now.to) it) c.items-head.ensures) (c.stand_as_one.ensures.0 c.if-stand_as_one.true)

pub returns : goal.returns
returns c = λ claims facts links found. (
  (λ claim wrong. wrong),
  (λ it. may_not_end claims c.args.self.now.query.now.body c.args.self.now.query.now.body facts links c.args.self.now.query.now.head
      c.args.self.now.targets.now (Some c.args.it.now) refl found c.args.it.now refl c.items-3.result.now c.items-4.result.now c.items-3.ensures
      (c.items-4.ensures ∙ c.in_ok-met.ensures ∙ ap (λ it. map (taken it c.items-2.result.now) c.items-head.result.now) c.items.ensures
      ∙ ap (λ it. map (taken c.args.it.now.from it) c.items-head.result.now) c.items-2.ensures
      ∙ ap (λ it. map (taken c.args.it.now.from c.args.it.now.to) it) c.items-head.ensures)
      (λ all. let told = c.stand_as_one.ensures.1 all in let not_told = c.if-stand_as_one.false in cc) it.0 it.1 it.2 it.3),
)
