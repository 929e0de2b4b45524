use Rattle.std.proofs.Common.{length, map, sym, subst, ◌∙◌}
use Rattle.esto_columns.specs.Indexed.{Index, LeadBefore, LeadsOn, bucket_of}
use Rattle.esto_columns.proofs.IndexLemmas.{among_places}
use Rattle.esto_columns.proofs.index.Index.places.Goals as goal

pub returns : goal.returns
returns c = λ listed are.
    let count = length c.args.self.now.last in
    let buckets = map (bucket_of count) listed in
    let bucket = bucket_of count c.args.key.now in
    among_places count c.args.key.now listed c.reverse.new.self.items
    (c.reverse.ensures.items ∙ c.in_ok-places.ensures buckets bucket
    (subst (λ (it : Index). LeadBefore it.before buckets) (sym c.self.view_is) are.before)
    (subst (LeadsOn buckets bucket (length buckets)) (sym c.last_of-last.ensures) (are.last bucket)))
