use Rattle.std.proofs.lemmas.Result.{IfOk-weaker}
use Rattle.esto_query.proofs.TrailLemmas.{Tries-atom}
use Rattle.esto_query.proofs.trail.bind_atom.Goals as goal

pub bind_row-requires : goal.bind_row-requires
bind_row-requires c = rw c.items.ensures c.requires

pub returns : goal.returns
returns c =
    let tried = rw (c.items.ensures, c.items-2.ensures) at c.bind_row.ensures in
    IfOk-weaker c.bind_row.result _ _
    (λ is_bound. Tries-atom c.args.start.now c.args.trail.now.items _ is_bound c.args.atom.now c.args.fact.now c.if-atom-fact.false) tried
