use Rattle.std.proofs.Common.{◌++◌, codes}
use Rattle.esto_status.specs.Line.{way_text}
use Rattle.esto_status.proofs.LineLemmas.{put_both}
use Rattle.esto_status.proofs.line.put_not_acyclic.Goals as goal

pub returns : goal.returns
returns c =
    let way = way_text c.args.cycle.now.names in
    let put = rw c.items.ensures at c.in_ok-put_way.ensures in
    put_both _ _ _ (codes "NotAcyclic ") (way ++ codes "\n") c.append-2.result c.in_ok-append.ensures.ok
    (put_both _ _ _ way (codes "\n") c.append-2.result put c.append-2.ensures.ok)
