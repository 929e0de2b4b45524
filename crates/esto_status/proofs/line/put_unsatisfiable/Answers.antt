use Rattle.std.proofs.Common.{◌++◌, codes}
use Rattle.esto_status.specs.Line.{clash_text}
use Rattle.esto_status.proofs.LineLemmas.{put_both}
use Rattle.esto_status.proofs.line.put_unsatisfiable.Goals as goal

pub returns : goal.returns
returns c =
    let clash = clash_text c.args.clash.now in
    put_both _ _ _ (codes "Unsatisfiable ") (clash ++ codes "\n") c.append-2.result c.in_ok-append.ensures.ok
    (put_both _ _ _ clash (codes "\n") c.append-2.result c.in_ok-put_clash.ensures c.append-2.ensures.ok)
