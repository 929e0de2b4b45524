use Rattle.std.proofs.Common.{length, sym, subst, arith}
use Rattle.std.proofs.lemmas.Result.{IfOk-weaker}
use Rattle.esto_backchase.specs.Candidates.{Answers}
use Rattle.esto_backchase.specs.Searching.{FailsWith}
use Rattle.esto_backchase.proofs.VisitLemmas.{fails-further, fails-own, fails-with_range}
use Rattle.esto_backchase.proofs.candidates.Search.+grown.Goals as goal

pub returns-in-Some : goal.returns-in-Some
returns-in-Some t c =
    let Pass = Answers c.args.self.now.catalogue.now c.args.self.now.query.now c.args.self.now.plan.now in
    fails-with_range (length c.args.self.now.plan.now.atoms) Pass c.args.from c.args.to c.in_ok-whole.whole c.args.set.now c.in-Some.more c.requires.count
    c.in_ok-whole.ensures c.in-Some.is

pub returns-then-to-from : goal.returns-then-to-from
returns-then-to-from t c =
    let Pass = Answers c.args.self.now.catalogue.now c.args.self.now.query.now c.args.self.now.plan.now in
    let count = length c.args.self.now.plan.now.atoms in
    IfOk-weaker c.copy.result _ _
    (λ same is. subst (FailsWith count Pass c.args.set.now) (sym is) (fails-own count Pass c.args.set.now c.requires.count c.requires.fails)) c.copy.ensures

pub returns : goal.returns
returns t c =
    let Pass = Answers c.args.self.now.catalogue.now c.args.self.now.query.now c.args.self.now.plan.now in
    let count = length c.args.self.now.plan.now.atoms in
    IfOk-weaker c.grown-2.result _ _ (λ both after. fails-further count Pass c.args.set.now c.in_ok-half.half both c.in_ok-half.ensures after)
    c.grown-2.ensures

pub grown-requires : goal.grown-requires
grown-requires t c =
    (omega (arith, c.decreases), (c.requires.search, (c.requires.count, (c.requires.fails, omega (arith, c.requires.in_range)))))

pub grown-requires-2 : goal.grown-requires-2
grown-requires-2 t c =
    let long = c.in_ok-half.ensures.same_length in (
      omega (arith, c.decreases),
      (c.requires.search, (long, (c.in_ok-half.ensures.fails, omega (arith, c.requires.in_range, c.requires.count, long)))),
    )
