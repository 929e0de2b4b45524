use Rattle.std.proofs.Common.{◌+◌, codes}
use Rattle.std.specs.Fmt.{decimal}
use Rattle.esto_status.proofs.LineLemmas.{put_both}
use Rattle.esto_status.proofs.line.put_denial.Goals as goal

pub returns : goal.returns
returns c = put_both _ _ _ (codes "constraint ") (decimal (c.args.rule + 1)) c.put_number.result c.in_ok-append.ensures.ok c.put_number.ensures
