use Rattle.std.proofs.Common.{ℕ, List, Contains, subst, sym, arith}
use Rattle.std.proofs.lemmas.List.{take_all}
use Rattle.std.proofs.lemmas.List.Elements.{Contains-get_or}
use Rattle.esto_term.proofs.ListLemmas.{Contains-nil}
use Rattle.esto_derive.proofs.ChainLemmas.{grows_not, grows_then, passed_next, still_there}
use Rattle.esto_derive.proofs.world.World.go_on.Goals as goal

pub links-init : goal.links-init
links-init c = record {
  grows = grows_not c.args.self.now.entries.now c.args.self.now.set.now c.args.reached.now;
  passed = λ link inside. absurd (Contains-nil link inside);
}

pub go_over-requires-clause-link : goal.go_over-requires-clause-link
go_over-requires-clause-link c = Contains-get_or c.args.self.now.links.now c.links.link-index 0 c.links-test.true

pub go_over-requires-clause-at : goal.go_over-requires-clause-at
go_over-requires-clause-at c =
    still_there c.args.self.now.entries.now c.args.self.now.set.now c.args.reached.now c.links.reached c.links.invariant.grows c.args.at c.requires.at

pub links-preserved : goal.links-preserved
links-preserved c =
    let it = c.args.self.now in
    let there = still_there it.entries.now it.set.now c.args.reached.now c.links.reached c.links.invariant.grows c.args.at c.requires.at in
    record {
      grows = grows_then it.entries.now it.set.now c.args.reached.now c.links.reached c.go_over.new.reached c.links.invariant.grows
          c.in_ok-go_over.ensures.grows;
      passed = passed_next it.entries.now it.set.now c.links.reached c.go_over.new.reached c.in_ok-go_over.ensures.grows c.args.at it.links.now
          c.links.link-index there c.links-test.true c.in_ok-go_over.ensures.passed c.links.invariant.passed;
    }

pub returns-clause-passed : goal.returns-clause-passed
returns-clause-passed c = λ link inside.
    c.links.invariant.passed link (subst (λ (it : List ℕ). Contains it link)
    (sym (take_all c.links.link-index c.args.self.now.links.now (omega (arith, c.links-test.false)))) inside)
