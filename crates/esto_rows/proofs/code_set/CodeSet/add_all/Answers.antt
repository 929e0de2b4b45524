use Rattle.std.proofs.Common.{get_or}
use Rattle.std.proofs.lemmas.Option.{slice_get-get_or}
use Rattle.esto_rows.proofs.WantedLemmas.{takes_none, takes_more, takes_all}
use Rattle.esto_rows.proofs.code_set.CodeSet.add_all.Goals as goal

pub codes-init : goal.codes-init
codes-init c = takes_none c.args.self.now

pub codes-preserved : goal.codes-preserved
codes-preserved c =
    takes_more c.args.codes.now c.codes.code-index (get_or c.args.codes.now c.codes.code-index 0) c.args.self.now c.codes.self c.add.new.self
    (slice_get-get_or c.args.codes.now c.codes.code-index 0 c.codes-test.true) c.codes.invariant c.in_ok-add.ensures

pub returns : goal.returns
returns c = takes_all c.args.codes.now c.codes.code-index c.args.self.now c.codes.self c.codes-test.false c.codes.invariant
