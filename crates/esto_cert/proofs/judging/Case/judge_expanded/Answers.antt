use Rattle.std.proofs.Common.{ap, arith}
use Rattle.esto_term.proofs.ListLemmas.{Contains-nil, Contains-read}
use Rattle.esto_chase_laws.specs.declared.entry.Claim.TheVariants.{Fact as Stated}
use Rattle.esto_cert.specs.Certificates.{IsNamed}
use Rattle.esto_cert.proofs.JudgeLemmas.{none_more, none_all}
use Rattle.esto_cert.proofs.judging.Case.judge_expanded.Goals as goal

pub is_named-requires : goal.is_named-requires
is_named-requires c =
    (c.requires c.fact-item.result (Contains-read c.args.self.now.expanded.now c.facts.fact-index c.fact-item.result c.facts-test.true c.fact-item.is)).0

pub facts-init : goal.facts-init
facts-init c = λ fact inside named. absurd (Contains-nil fact inside)

pub facts-preserved : goal.facts-preserved
facts-preserved c =
    none_more (IsNamed c.args.self.now.set.now c.args.atom c.args.place) c.args.self.now.expanded.now c.facts.fact-index c.facts.invariant c.fact-item.result
    c.facts-test.true c.fact-item.is (λ named. let told = c.is_named.ensures.1 named in let not_told = c.if-is_named.false in cc)

pub returns-then-is_named : goal.returns-then-is_named
returns-then-is_named c = λ claims. (
  c.fact-item.result,
  Contains-read c.args.self.now.expanded.now c.facts.fact-index c.fact-item.result c.facts-test.true c.fact-item.is,
  c.is_named.ensures.0 c.if-is_named.true,
  ap Stated c.in_ok-claimed.ensures,
)

pub returns : goal.returns
returns c = λ claims. (
  (λ claim it. none_all (IsNamed c.args.self.now.set.now c.args.atom c.args.place) c.args.self.now.expanded.now c.facts.fact-index c.facts.invariant
      (omega (arith, c.facts-test.false)) it.0 it.1 it.2),
  (λ wrong. wrong),
)
