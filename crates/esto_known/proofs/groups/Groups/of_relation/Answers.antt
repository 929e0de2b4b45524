use Rattle.std.proofs.lemmas.Result.{on_ok_weaker}
use Rattle.esto_known.proofs.DoneLemmas.{handed_on}
use Rattle.esto_known.proofs.IndexLemmas.{relation_found}
use Rattle.esto_known.proofs.groups.Groups.of_relation.Goals as goal

pub returns : goal.returns
returns c = handed_on c.put_places.result _ c.and.result c.and.ensures _
    (on_ok_weaker c.put_places.result (relation_found c.args.self.now c.self.inside.groups.items c.self.inside.keys c.self.inside.whole c.self.view_is
    c.self.invariant c.args.relation _ c.put_places.new.places c.relation_hash-key.ensures _) c.put_places.ensures)
