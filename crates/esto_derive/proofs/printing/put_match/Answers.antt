use Rattle.std.proofs.lemmas.Result.{on_ok_weaker}
use Rattle.esto_derive.proofs.PutLemmas.{match_put}
use Rattle.esto_derive.proofs.printing.put_match.Goals as goal

pub returns : goal.returns
returns c =
    on_ok_weaker c.put_lists.result (λ (linked, adds, is). (linked, adds, match_put _ _ _ _ _ c.in_ok-append.ensures.ok is)) c.put_lists.ensures
