use Rattle.std.proofs.Common.{◌≡◌, ◌++◌, Contains, refl, sym, ap, subst, length, ◌∙◌}
use Rattle.esto_term.proofs.ListLemmas.{Contains-nil, Contains-read, each_more, each_seen}
use Rattle.esto_chase_laws.specs.Worlds.{AreOfCount}
use Rattle.esto_condchase.specs.Ways.{IsTold, extended}
use Rattle.esto_known.specs.KeptWays.{AreCounted}
use Rattle.esto_condchase.specs.declared.passing.Support.{Support}
use Rattle.esto_known.specs.declared.way.Way.{Way}
use Rattle.esto_condchase.proofs.StepLemmas.{grown_same, grown_then, grown_weaker, told_kept, counted_grown}
use Rattle.esto_condchase.proofs.steps.keep_all.Goals as goal

pub supports-init : goal.supports-init
supports-init c = record {
  grown = grown_same _ c.args.kept.now c.args.kept.now refl;
  there = λ support inside. absurd (Contains-nil support inside);
  counted = c.requires.counted;
}

pub keep-requires-clause-counts : goal.keep-requires-clause-counts
keep-requires-clause-counts c = subst (λ n. AreOfCount n c.args.step.now.known.now) (sym (c.requires.supports c.support-item.result
    (Contains-read c.args.supports.now c.supports.support-index c.support-item.result c.supports-test.true c.support-item.is))) c.requires.counts

pub keep-requires-clause-counted : goal.keep-requires-clause-counted
keep-requires-clause-counted c = subst (λ n. AreCounted n c.supports.kept) (sym (c.requires.supports c.support-item.result
    (Contains-read c.args.supports.now c.supports.support-index c.support-item.result c.supports-test.true c.support-item.is))) c.supports.invariant.counted

pub supports-preserved : goal.supports-preserved
supports-preserved c =
    let inside = Contains-read c.args.supports.now c.supports.support-index c.support-item.result c.supports-test.true c.support-item.is in
    let Comes : Way → Type 0 = λ way. (support : Support) × Contains c.args.supports.now support
    × (way ≡ extended c.args.before.now c.args.place c.args.step.now.owns.now support) in
    let This : Way → Type 0 = λ way. way ≡ extended c.args.before.now c.args.place c.args.step.now.owns.now c.support-item.result in
    let to = c.args.step.now.to.now ++ c.args.step.now.owns.now in
    record {
      grown = grown_then Comes c.args.kept.now c.supports.kept c.keep.new.kept c.supports.invariant.grown
          (grown_weaker This Comes c.supports.kept c.keep.new.kept (λ way is. (c.support-item.result, inside, is)) c.in_ok-keep.ensures.grown);
      there = each_more (λ (support : Support). IsTold c.args.step.now.known.now c.args.step.now.sides c.args.step.now.places.now c.keep.new.kept to
          support.product) c.args.supports.now
          c.supports.support-index c.support-item.result c.supports-test.true c.support-item.is c.in_ok-keep.ensures.there
          (λ support its. told_kept c.args.step.now.known.now c.args.step.now.sides c.args.step.now.places.now c.supports.kept c.keep.new.kept to
          support.product c.in_ok-keep.ensures.grown.kept
          (c.supports.invariant.there support its));
      counted = counted_grown c.args.count This c.supports.kept c.keep.new.kept c.in_ok-keep.ensures.grown
          (λ way is. ap (λ (it : Way). length it.product) is ∙ c.requires.supports c.support-item.result inside) c.supports.invariant.counted;
    }

pub returns-clause-grown : goal.returns-clause-grown
returns-clause-grown c = c.supports.invariant.grown

pub returns-clause-there : goal.returns-clause-there
returns-clause-there c = each_seen (λ (support : Support). IsTold c.args.step.now.known.now c.args.step.now.sides c.args.step.now.places.now c.supports.kept
    (c.args.step.now.to.now ++ c.args.step.now.owns.now) support.product) c.args.supports.now c.supports.support-index c.supports-test.false
    c.supports.invariant.there
