use Rattle.std.proofs.lemmas.Result.{on_ok_weaker}
use Rattle.esto_derive.proofs.PutLemmas.{lists_put}
use Rattle.esto_derive.proofs.printing.put_lists.Goals as goal

pub returns : goal.returns
returns c =
    let (linked, adds, is) = c.in_ok-put_links.ensures in
    on_ok_weaker c.append-2.result
    (λ ends. (linked, adds, lists_put _ _ _ _ _ _ _ c.in_ok-put_lines.ensures c.in_ok-append.ensures.ok is ends))
    c.append-2.ensures.ok
