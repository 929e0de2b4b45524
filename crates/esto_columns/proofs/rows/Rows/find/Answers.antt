use Rattle.std.proofs.Common.{◌≡◌, ◌+◌, ◌-◌, map, length, sym, subst, ◌∙◌, arith}
use Rattle.std.proofs.lemmas.Bool.{false≢true}
use Rattle.esto_columns.specs.Indexed.{LeadsOn, bucket_of}
use Rattle.esto_columns.proofs.FindLemmas.{seek_start, seek_on, seek_end}
use Rattle.esto_columns.proofs.rows.Rows.find.Goals as goal

pub places-init : goal.places-init
places-init c = λ own.
    let count = length c.args.index.now.last in
    seek_start c.args.self.now.rows c.args.row.now count c.last_of-next.result
    (subst (LeadsOn (map (bucket_of count) c.args.self.now.rows) (bucket_of count c.args.row.now) (length (map (bucket_of count) c.args.self.now.rows)))
    (sym c.last_of-next.ensures) (own.last (bucket_of count c.args.row.now)))

pub places-preserved : goal.places-preserved
places-preserved c = λ own.
    let count = length c.args.index.now.last in
    let some = c.places-test.true in
    let is : c.places.next - 1 + 1 ≡ c.places.next = omega (arith, some) in
    let sought = c.places.invariant own in
    let leads = own.before (c.places.next - 1) (bucket_of count c.args.row.now) (sought.own (c.places.next - 1) is) in
    seek_on c.args.self.now.rows c.args.row.now count c.places.next (c.places.next - 1) c.before-next.result is
    (subst (LeadsOn (map (bucket_of count) c.args.self.now.rows) (bucket_of count c.args.row.now) (c.places.next - 1))
    (sym (c.before-next.ensures.value leads.within)) leads)
    (λ at. false≢true (sym c.if-is_at.false ∙ c.is_at.ensures.1 at)) sought

pub returns-clause-last : goal.returns-clause-last
returns-clause-last c = λ own. seek_end c.args.self.now.rows c.args.row.now (length c.args.index.now.last) c.places.next c.places-test.false
    (c.places.invariant own)
