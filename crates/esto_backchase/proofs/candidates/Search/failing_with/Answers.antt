use Rattle.std.proofs.Common.{length, inl, inr, refl, sym, ◌∙◌}
use Rattle.std.proofs.lemmas.Bool.{false≢true}
use Rattle.esto_backchase.specs.Candidates.{Answers}
use Rattle.esto_backchase.proofs.VisitLemmas.{fails-known, fails-pushed, failing-pushed}
use Rattle.esto_backchase.proofs.candidates.Search.failing_with.Goals as goal

pub superset_in-requires : goal.superset_in-requires
superset_in-requires c other inside = (c.requires.failing other inside).0 ∙ sym c.requires.count

pub returns-in-Some-clause-failed : goal.returns-in-Some-clause-failed
returns-in-Some-clause-failed c =
    let Pass = Answers c.args.self.now.catalogue.now c.args.self.now.query.now c.args.self.now.plan.now in
    fails-known (length c.args.self.now.plan.now.atoms) Pass c.args.failing.now c.args.set.now c.superset_in.result c.in-Some.place c.requires.failing
    c.superset_in.ensures c.in-Some.is

pub returns-then-branch-clause-failed : goal.returns-then-branch-clause-failed
returns-then-branch-clause-failed c = c.in_ok-answers.ensures.0 c.if-branch.true

pub add_failing-requires-clause-fails : goal.add_failing-requires-clause-fails
add_failing-requires-clause-fails c passes = false≢true (sym c.if-branch.false ∙ c.in_ok-answers.ensures.1 passes)

pub returns-clause-failing : goal.returns-clause-failing
returns-clause-failing c =
    let Pass = Answers c.args.self.now.catalogue.now c.args.self.now.query.now c.args.self.now.plan.now in
    let (failed, fails, pushed) = c.in_ok-add_failing.ensures in
    failing-pushed (length c.args.self.now.plan.now.atoms) Pass c.args.failing.now c.add_failing.new.failing c.args.set.now failed
    c.requires.failing fails pushed

pub returns-clause-failed : goal.returns-clause-failed
returns-clause-failed c =
    let Pass = Answers c.args.self.now.catalogue.now c.args.self.now.query.now c.args.self.now.plan.now in
    let (failed, fails, pushed) = c.in_ok-add_failing.ensures in
    fails-pushed (length c.args.self.now.plan.now.atoms) Pass c.args.failing.now c.add_failing.new.failing c.args.set.now failed c.len-place.result
    fails pushed c.len-place.ensures

pub returns-in-Some-clause-known : goal.returns-in-Some-clause-known
returns-in-Some-clause-known c = inl refl

pub returns-then-branch-clause-known : goal.returns-then-branch-clause-known
returns-then-branch-clause-known c = inl refl

pub returns-clause-known : goal.returns-clause-known
returns-clause-known c = let (failed, fails, pushed) = c.in_ok-add_failing.ensures in inr (failed, pushed)
