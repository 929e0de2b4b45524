use Rattle.std.proofs.Common.{IfNone, IfSome, subst}
use Rattle.std.specs.Bool.{⊤}
use Rattle.esto_query.specs.Matches.{HasNoMatch, IsLeastMatch}
use Rattle.esto_query.specs.declared.matches.Found.{Found}
use Rattle.esto_instance.proofs.receiving.matching.Goals as goal

pub returns-in-Some : goal.returns-in-Some
returns-in-Some c = (
  c.in-Some.found.places,
  subst (λ start. IsLeastMatch c.args.body.now c.args.facts.now start (λ _. ⊤) c.in-Some.found.valuation c.in-Some.found.places) c.new-start.ensures
      (subst (λ outcome. IfSome outcome
      (λ (found : Found). IsLeastMatch c.args.body.now c.args.facts.now c.new-start.result (λ _. ⊤) found.valuation found.places)) c.in-Some.is
      c.in_ok-found.ensures.found),
)

pub returns : goal.returns
returns c =
    subst (λ start. HasNoMatch c.args.body.now c.args.facts.now start (λ _. ⊤)) c.new-start.ensures
    (subst (λ outcome. IfNone outcome (HasNoMatch c.args.body.now c.args.facts.now c.new-start.result (λ _. ⊤))) c.in-None.is c.in_ok-found.ensures.none)
