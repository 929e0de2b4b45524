use Rattle.std.proofs.Common.{sym}
use Rattle.std.proofs.lemmas.Option.{MatchOption-at_none, MatchOption-at_some}
use Rattle.esto_columns.proofs.CodingLemmas.{grows_on}
use Rattle.esto_steps.specs.Planned.{IsNew, IsSource}
use Rattle.esto_coded.proofs.WholeLemmas.{known_not_new, head_more}
use Rattle.esto_coded.proofs.steps.head_of.Goals as goal

pub unreachable-requires : goal.unreachable-requires
unreachable-requires c =
    known_not_new c.args.bound.now c.term-item.result (c.requires c.term-item.result (c.terms.term-index, c.terms-test.true, sym c.term-item.is))
    (MatchOption-at_none (IsNew c.args.bound.now c.term-item.result) (IsSource c.source_of.new.codes c.args.bound.now c.term-item.result) c.in-None.is
    c.in_ok-source.ensures.source)

pub terms-preserved : goal.terms-preserved
terms-preserved c = record {
  head = head_more c.terms.codes c.source_of.new.codes c.args.bound.now c.args.head.now c.terms.sources c.push.new.self c.terms.term-index
      c.term-item.result c.in-Some.source c.source_of.ensures.grown c.terms-test.true c.term-item.is c.terms.invariant.head
      (MatchOption-at_some (IsNew c.args.bound.now c.term-item.result) (IsSource c.source_of.new.codes c.args.bound.now c.term-item.result)
      c.in-Some.source c.in-Some.is c.in_ok-source.ensures.source)
      c.in_ok-push-in-Some.ensures.ok;
  grown = grows_on c.args.codes.now c.terms.codes c.source_of.new.codes c.terms.invariant.grown c.source_of.ensures.grown;
}
