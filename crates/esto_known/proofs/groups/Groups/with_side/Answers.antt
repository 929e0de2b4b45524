use Rattle.std.proofs.lemmas.Result.{on_ok_weaker}
use Rattle.esto_known.proofs.DoneLemmas.{handed_on}
use Rattle.esto_known.proofs.IndexLemmas.{sides_found}
use Rattle.esto_known.proofs.groups.Groups.with_side.Goals as goal

pub returns : goal.returns
returns c = handed_on c.put_places-2.result _ c.and.result c.and.ensures _
    (on_ok_weaker c.put_places-2.result (sides_found c.args.self.now c.self.inside.groups.items c.self.inside.keys c.self.inside.whole c.self.view_is
    c.self.invariant c.args.term.now _ c.put_places.new.places c.put_places-2.new.places c.term_hash-key.ensures _ c.in_ok-put_places.ensures)
    c.put_places-2.ensures)
