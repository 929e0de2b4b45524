use Rattle.std.proofs.Common.{sym}
use Rattle.esto_catalog.proofs.AccessLemmas.{no_patterns, wide_more, written_more}
use Rattle.esto_catalog.proofs.access.patterns_of.Goals as goal

pub returns-in_default : goal.returns-in_default
returns-in_default c =
    let none = rw (c.in_default.is, c.bytes.ensures.value) at c.in_ok-pattern.ensures in
    no_patterns c.args.columns c.args.texts.now c.text-item.result (c.texts.text-index, c.texts-test.true, sym c.text-item.is) none

pub texts-preserved : goal.texts-preserved
texts-preserved c =
    let own = rw (c.in-Some.is, c.bytes.ensures.value) at c.in_ok-pattern.ensures in
    record {
      written = rw c.in_ok-push.ensures.ok
          (written_more c.args.texts.now c.texts.patterns c.texts.text-index c.text-item.result c.in-Some.pattern c.texts-test.true c.text-item.is
          c.texts.invariant.written own.0);
      wide = rw c.in_ok-push.ensures.ok (wide_more c.args.columns c.texts.patterns c.in-Some.pattern c.texts.invariant.wide own.1);
    }
