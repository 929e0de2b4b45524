use Rattle.std.proofs.Common.{sym, subst}
use Rattle.std.proofs.lemmas.Result.{IfOk-weaker}
use Rattle.esto_columns.specs.Asked.{IsAllowed}
use Rattle.esto_exec.specs.Turns.{link_in}
use Rattle.esto_exec.proofs.InsteadLemmas.{follows_links}
use Rattle.esto_exec.proofs.UnderWayLemmas.{links_in_columns}
use Rattle.esto_exec.proofs.asked.asked_by.Goals as goal

pub asked_rows-requires : goal.asked_rows-requires
asked_rows-requires g c = subst (IsAllowed (g.F.Fragment.shape c.args.fragment.now))
    (sym (links_in_columns c.args.places.now c.args.arities.now c.args.links.now c.in_ok-inputs.inputs c.in_ok-inputs.ensures)) c.requires

pub returns-clause-complete : goal.returns-clause-complete
returns-clause-complete g c = IfOk-weaker c.asked_rows.result _ _
    (λ it complete cells row inside among met. complete cells row inside among
    (follows_links _ (link_in c.args.places.now c.args.arities.now) c.args.links.now cells row c.in_ok-inputs.ensures c.new.ensures met))
    c.asked_rows.ensures.complete
