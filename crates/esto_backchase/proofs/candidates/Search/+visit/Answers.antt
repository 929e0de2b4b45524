use Rattle.std.proofs.Common.{◌+◌, ◌<◌, true, inl, inr, ap, length, get_or, refl, sym, subst, ◌∙◌, arith}
use Rattle.std.proofs.lemmas.List.{length-set}
use Rattle.std.proofs.lemmas.List.Elements.{Contains-get_or}
use Rattle.std.proofs.lemmas.Result.{on_ok_weaker}
use Rattle.esto_term.specs.Sets.{Has}
use Rattle.esto_backchase.specs.Candidates.{Answers}
use Rattle.esto_backchase.specs.Searching.{HasOneOf, IsBetween}
use Rattle.esto_backchase.proofs.VisitLemmas.{AreEarlier, HasOneBelow, between-more, earlier-more, earlier-none, fails-there, fails-within, further-lacks}
use Rattle.esto_backchase.proofs.VisitLemmas.{lacks, lacks-fewer, none-passes, one-all, one-none, one-splits, passing-has, some-fails, visited-added}
use Rattle.esto_backchase.proofs.VisitLemmas.{visited-as, visited-both, visited-covered, visited-none}
use Rattle.esto_backchase.proofs.candidates.Search.+visit.Goals as goal

pub visit-returns-then-covered-clause-visited : goal.visit-returns-then-covered-clause-visited
visit-returns-then-covered-clause-visited t c =
    let Pass = Answers c.args.self.now.catalogue.now c.args.self.now.query.now c.args.self.now.plan.now in
    visited-covered Pass (IsBetween c.args.set.now c.args.left_out.now) c.args.found.now.sets c.args.set.now (c.covered.ensures.0 c.if-covered.true)
    (λ other between. between.has)

pub visit-returns-in_ok-add-in-None-clause-visited : goal.visit-returns-in_ok-add-in-None-clause-visited
visit-returns-in_ok-add-in-None-clause-visited t c =
    let Pass = Answers c.args.self.now.catalogue.now c.args.self.now.query.now c.args.self.now.plan.now in
    visited-added Pass (IsBetween c.args.set.now c.args.left_out.now) c.args.found.now.sets c.add.new.self.sets c.args.set.now
    (none-passes (length c.args.self.now.plan.now.atoms) Pass c.failing_with.new.failing c.args.set.now c.in_ok-outcome.outcome
    c.in_ok-outcome.ensures.failed c.in-None.is)
    (λ other between. between.has) c.in_ok-add-in-None.ensures.ok c.in_ok-add-in-None.ensures.covers

pub visit-visit_outside-requires : goal.visit-visit_outside-requires
visit-visit_outside-requires t c =
    let Pass = Answers c.args.self.now.catalogue.now c.args.self.now.query.now c.args.self.now.plan.now in
    let failed = some-fails (length c.args.self.now.plan.now.atoms) Pass c.failing_with.new.failing c.args.set.now c.in_ok-outcome.outcome
    c.in_ok-outcome.ensures.failed c.in-Some.place c.in-Some.is in (
      omega (arith, c.decreases),
      (c.requires.search, (c.requires.rises, (c.requires.count, (c.requires.left_out, (failed, (c.requires.same_count, c.in_ok-outcome.ensures.failing)))))),
    )

pub visit-returns-in-Some-clause-visited : goal.visit-returns-in-Some-clause-visited
visit-returns-in-Some-clause-visited t c = c.visit_outside.ensures.visited

pub visit_outside-item-requires : goal.visit_outside-item-requires
visit_outside-item-requires t c =
    let Pass = Answers c.args.self.now.catalogue.now c.args.self.now.query.now c.args.self.now.plan.now in
    fails-within (length c.args.self.now.plan.now.atoms) Pass c.args.failing.now c.args.set.now c.args.place c.requires.failed

pub visit_outside-absent_in_both-requires : goal.visit_outside-absent_in_both-requires
visit_outside-absent_in_both-requires t c =
    let Pass = Answers c.args.self.now.catalogue.now c.args.self.now.query.now c.args.self.now.plan.now in
    c.requires.left_out
    ∙ sym (fails-there (length c.args.self.now.plan.now.atoms) Pass c.args.failing.now c.args.set.now c.args.place c.requires.failed
    c.item.result.now c.item.ensures).same_length

pub visit_outside-visit_by-requires : goal.visit_outside-visit_by-requires
visit_outside-visit_by-requires t c =
    let Pass = Answers c.args.self.now.catalogue.now c.args.self.now.query.now c.args.self.now.plan.now in
    let count = length c.args.self.now.plan.now.atoms in
    let set = c.args.set.now in
    let fails = fails-there count Pass c.args.failing.now set c.args.place c.requires.failed c.item.result.now c.item.ensures in
    let numbers = further-lacks count Pass set c.args.left_out.now c.item.result.now fails c.in_ok-numbers.numbers c.items.result.now
    c.in_ok-numbers.ensures c.items.ensures in (
      omega (arith, c.decreases),
      (c.requires.search, (c.requires.rises, (c.requires.count, (c.requires.left_out, (numbers, (c.requires.same_count, c.requires.failing)))))),
    )

pub visit_outside-returns-clause-count : goal.visit_outside-returns-clause-count
visit_outside-returns-clause-count t c = c.visit_by.ensures.count

pub visit_outside-returns-clause-failing : goal.visit_outside-returns-clause-failing
visit_outside-returns-clause-failing t c = c.visit_by.ensures.failing

pub visit_outside-returns-clause-visited : goal.visit_outside-returns-clause-visited
visit_outside-returns-clause-visited t c =
    let Pass = Answers c.args.self.now.catalogue.now c.args.self.now.query.now c.args.self.now.plan.now in
    let count = length c.args.self.now.plan.now.atoms in
    let set = c.args.set.now in
    let left_out = c.args.left_out.now in
    let fails = fails-there count Pass c.args.failing.now set c.args.place c.requires.failed c.item.result.now c.item.ensures in
    on_ok_weaker c.visit_by.result
    (λ visited. visited-as Pass (IsBetween set left_out) (λ other. IsBetween set left_out other × HasOneOf c.items.result.now other)
    c.args.found.now.sets c.visit_by.new.found.sets visited
    (λ other between passes. (
      between,
      passing-has count Pass set left_out c.item.result.now fails c.in_ok-numbers.numbers c.items.result.now c.in_ok-numbers.ensures
          c.items.ensures c.requires.rises c.requires.count other between passes,
    )))
    c.visit_by.ensures.visited

pub visit_by-numbers-init : goal.visit_by-numbers-init
visit_by-numbers-init t c =
    let Pass = Answers c.args.self.now.catalogue.now c.args.self.now.query.now c.args.self.now.plan.now in
    let set = c.args.set.now in
    let left_out = c.args.left_out.now in
    let numbers = c.args.numbers.now in
    record {
      earlier_count = ap length c.in_ok-earlier.ensures ∙ c.requires.left_out;
      earlier = subst (AreEarlier set left_out numbers 0) (sym c.in_ok-earlier.ensures) (earlier-none set left_out numbers);
      same_count = refl;
      failing = c.requires.failing;
      visited = visited-none Pass (HasOneBelow set left_out numbers 0) c.args.found.now.sets (one-none set left_out numbers);
    }

pub visit_by-visit_more-requires : goal.visit_by-visit_more-requires
visit_by-visit_more-requires t c =
    let inside = Contains-get_or c.args.numbers.now c.numbers.number-index 0 c.numbers-test.true in (
      omega (arith, c.decreases),
      (
        c.requires.search,
        (
          c.requires.rises,
          (
            c.requires.count,
            (
              c.requires.numbers (get_or c.args.numbers.now c.numbers.number-index 0) inside,
              (c.numbers.invariant.earlier_count, (c.numbers.invariant.same_count ∙ c.requires.same_count, c.numbers.invariant.failing)),
            ),
          ),
        ),
      ),
    )

pub visit_by-insert-requires : goal.visit_by-insert-requires
visit_by-insert-requires t c =
    let inside = Contains-get_or c.args.numbers.now c.numbers.number-index 0 c.numbers-test.true in
    omega (arith, (c.requires.numbers (get_or c.args.numbers.now c.numbers.number-index 0) inside).0, c.numbers.invariant.earlier_count)

pub visit_by-numbers-preserved : goal.visit_by-numbers-preserved
visit_by-numbers-preserved t c =
    let Pass = Answers c.args.self.now.catalogue.now c.args.self.now.query.now c.args.self.now.plan.now in
    let number = get_or c.args.numbers.now c.numbers.number-index 0 in
    let set = c.args.set.now in
    let left_out = c.args.left_out.now in
    let numbers = c.args.numbers.now in
    let index = c.numbers.number-index in
    record {
      earlier_count = ap length c.insert.ensures.value ∙ length-set c.numbers.earlier number true ∙ c.numbers.invariant.earlier_count;
      earlier = earlier-more set left_out numbers index number c.numbers-test.true refl c.numbers.earlier c.insert.new.self
          c.numbers.invariant.earlier c.insert.ensures.has;
      same_count = c.in_ok-visit_more.ensures.count ∙ c.numbers.invariant.same_count;
      failing = c.in_ok-visit_more.ensures.failing;
      visited = visited-both Pass (HasOneBelow set left_out numbers (index + 1)) (HasOneBelow set left_out numbers index)
          (λ other. IsBetween set c.numbers.earlier other × Has other number) c.args.found.now.sets c.numbers.found.sets c.visit_more.new.found.sets
          c.numbers.invariant.visited c.in_ok-visit_more.ensures.visited
          (one-splits set left_out numbers index number c.numbers-test.true refl c.numbers.earlier c.numbers.invariant.earlier);
    }

pub visit_by-returns-clause-visited : goal.visit_by-returns-clause-visited
visit_by-returns-clause-visited t c =
    let Pass = Answers c.args.self.now.catalogue.now c.args.self.now.query.now c.args.self.now.plan.now in
    visited-as Pass (λ other. IsBetween c.args.set.now c.args.left_out.now other × HasOneOf c.args.numbers.now other)
    (HasOneBelow c.args.set.now c.args.left_out.now c.args.numbers.now c.numbers.number-index) c.args.found.now.sets c.numbers.found.sets
    c.numbers.invariant.visited
    (λ other is_in _. one-all c.args.set.now c.args.left_out.now c.args.numbers.now c.numbers.number-index c.numbers-test.false other is_in)

pub visit-covered-requires : goal.visit-covered-requires
visit-covered-requires t c = c.requires.count ∙ sym c.requires.same_count

pub visit-returns-then-covered-clause-failing : goal.visit-returns-then-covered-clause-failing
visit-returns-then-covered-clause-failing t c = c.requires.failing

pub visit-add-requires : goal.visit-add-requires
visit-add-requires t c = c.requires.count ∙ sym c.requires.same_count

pub visit-returns-in_ok-add-in-None-clause-count : goal.visit-returns-in_ok-add-in-None-clause-count
visit-returns-in_ok-add-in-None-clause-count t c = c.add.ensures.count

pub visit-returns-in_ok-add-in-None-clause-failing : goal.visit-returns-in_ok-add-in-None-clause-failing
visit-returns-in_ok-add-in-None-clause-failing t c = c.in_ok-outcome.ensures.failing

pub visit-returns-in-Some-clause-count : goal.visit-returns-in-Some-clause-count
visit-returns-in-Some-clause-count t c = c.visit_outside.ensures.count

pub visit-returns-in-Some-clause-failing : goal.visit-returns-in-Some-clause-failing
visit-returns-in-Some-clause-failing t c = c.visit_outside.ensures.failing

pub visit_by-returns-clause-count : goal.visit_by-returns-clause-count
visit_by-returns-clause-count t c = c.numbers.invariant.same_count

pub visit_by-returns-clause-failing : goal.visit_by-returns-clause-failing
visit_by-returns-clause-failing t c = c.numbers.invariant.failing

pub visit_more-with_number-requires : goal.visit_more-with_number-requires
visit_more-with_number-requires t c = omega (arith, c.requires.further.0, c.requires.count)

pub visit_more-visit-requires : goal.visit_more-visit-requires
visit_more-visit-requires t c =
    let more = c.in_ok-more.more in
    let has = c.in_ok-more.ensures.has in
    let fewer : lacks more < lacks c.args.set.now =
    lacks-fewer c.args.set.now more c.args.number c.in_ok-more.ensures.count (λ k own. (has k).1 (inr own)) ((has c.args.number).1 (inl refl))
    c.requires.further.1 in (
      omega (arith, c.decreases, fewer),
      (
        c.requires.search,
        (
          c.requires.rises,
          (c.in_ok-more.ensures.count ∙ c.requires.count, (c.requires.left_out, (c.requires.same_count, c.requires.failing))),
        ),
      ),
    )

pub visit_more-returns-clause-count : goal.visit_more-returns-clause-count
visit_more-returns-clause-count t c = c.visit.ensures.count

pub visit_more-returns-clause-failing : goal.visit_more-returns-clause-failing
visit_more-returns-clause-failing t c = c.visit.ensures.failing

pub visit_more-returns-clause-visited : goal.visit_more-returns-clause-visited
visit_more-returns-clause-visited t c =
    let Pass = Answers c.args.self.now.catalogue.now c.args.self.now.query.now c.args.self.now.plan.now in
    let set = c.args.set.now in
    let left_out = c.args.left_out.now in
    let number = c.args.number in
    on_ok_weaker c.visit.result
    (λ visited. visited-as Pass (λ other. IsBetween set left_out other × Has other number) (IsBetween c.in_ok-more.more left_out)
    c.args.found.now.sets c.visit.new.found.sets visited
    (λ other (between, has) _.
    between-more set left_out c.in_ok-more.more other number c.in_ok-more.ensures.count c.in_ok-more.ensures.has between has))
    c.visit.ensures.visited
