use Rattle.std.proofs.Common.{◌≡◌, ℕ, ◌+◌, ◌<◌, Some, sym, subst}
use Rattle.std.proofs.lemmas.Result.{IfOk-weaker}
use Rattle.esto_constraint.specs.Constraints.{rule_of}
use Rattle.esto_constraint.specs.declared.rule.Constraint.{Constraint}
use Rattle.esto_chase_laws.specs.WorldMatches.{taken}
use Rattle.esto_chase_laws.specs.WorldSteps.{IsAsked}
use Rattle.esto_cert.specs.Certificates.{made_at}
use Rattle.esto_derive.specs.Placing.{Makes}
use Rattle.esto_derive.proofs.PlaceLemmas.{asked_at, made_exactly}
use Rattle.esto_derive.proofs.placing.place_of.Goals as goal

pub place_in_head-requires-clause-made : goal.place_in_head-requires-clause-made
place_in_head-requires-clause-made c =
    let m = taken c.args.from.now c.args.to.now in
    let found = asked_at c.args.number c.in-Tuple.tuple.body c.in-Tuple.tuple.head m c.args.claim.now
    (subst (λ (it : Constraint). IsAsked c.args.number (rule_of it) m c.args.claim.now) c.in-Tuple.is c.requires.asked) in (
      found.0,
      subst (λ (it : ℕ). found.0 < it) (sym c.len.ensures) found.1,
      subst (λ (it : Constraint). Makes (found.0 + 1) c.args.number (rule_of it) m c.args.claim.now) (sym c.in-Tuple.is) found.2,
    )

pub returns-in-Tuple : goal.returns-in-Tuple
returns-in-Tuple c =
    let m = taken c.args.from.now c.args.to.now in
    IfOk-weaker c.place_in_head.result _ _
    (λ place makes. subst (λ (it : Constraint). made_at place c.args.number (rule_of it) m ≡ Some c.args.claim.now) (sym c.in-Tuple.is)
    (made_exactly c.args.number c.in-Tuple.tuple.body c.in-Tuple.tuple.head m c.args.claim.now place
    (subst (λ (it : Constraint). Makes place c.args.number (rule_of it) m c.args.claim.now) c.in-Tuple.is makes)))
    c.place_in_head.ensures
