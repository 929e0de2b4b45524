use Rattle.std.proofs.Common.{Contains, sym, subst}
use Rattle.std.proofs.lemmas.Result.{on_ok_weaker}
use Rattle.esto_known.proofs.DoneLemmas.{handed_on}
use Rattle.esto_known.proofs.LiveLemmas.{facts_all, read_items}
use Rattle.esto_known.proofs.live.facts_of.Goals as goal

pub returns : goal.returns
returns c = handed_on c.put_groups.result _ c.and.result c.and.ensures _
    (on_ok_weaker c.put_groups.result (λ put. facts_all c.args.known.now c.groups-groups.result.now c.groups-groups.ensures c.args.relation
    c.items-2.result.now c.put_groups.new.places
    (λ place group fact at is same. subst (λ it. Contains it place) (sym c.items-2.ensures) (c.in_ok-found.ensures place group fact at is same))
    (λ at inside group there. put at inside group (read_items c.items.result.now c.groups-groups.result.now at group c.items.ensures there)))
    c.put_groups.ensures)
