use Rattle.std.proofs.Common.{◌≡◌, ◌+◌, ◌-◌, map, take, drop, length, get_or, Contains, sym, ap, subst, ◌∙◌, arith}
use Rattle.std.proofs.lemmas.Bool.{false≢true}
use Rattle.esto_term.proofs.ListLemmas.{Contains-at}
use Rattle.esto_columns.specs.Indexed.{LeadsOn, bucket_of}
use Rattle.esto_rows.specs.Told.{IsContrary}
use Rattle.esto_rows.proofs.SameLemmas.{is_so, is_not}
use Rattle.esto_rows.proofs.ToldLemmas.{below_all, taken_same, walk_start, walk_there, walk_on, walk_end}
use Rattle.esto_rows.proofs.told.has_contrary.Goals as goal

pub places-init : goal.places-init
places-init c =
    let count = length c.args.index.now.last in
    let buckets = map (bucket_of count) (map (drop 1) (take c.args.at c.args.rows.now.rows)) in
    walk_start (take c.args.at c.args.rows.now.rows) c.args.row.now count c.last_of-next.result
    (subst (LeadsOn buckets (bucket_of count (drop 1 c.args.row.now)) (length buckets))
    (sym (c.last_of-next.ensures ∙ ap (λ key. get_or c.args.index.now.last (bucket_of count key) 0) c.key_of.ensures))
    (c.requires.own.last (bucket_of count (drop 1 c.args.row.now))))

pub read_row-requires : goal.read_row-requires
read_row-requires c =
    let some = c.places-test.true in
    below_all c.args.rows.now.rows c.args.at (c.places.next - 1)
    (walk_there (take c.args.at c.args.rows.now.rows) c.args.row.now (length c.args.index.now.last) c.places.next (c.places.next - 1)
    (omega (arith, some)) c.places.invariant)

pub returns-then-is_same : goal.returns-then-is_same
returns-then-is_same c =
    let some = c.places-test.true in
    let within = walk_there (take c.args.at c.args.rows.now.rows) c.args.row.now (length c.args.index.now.last) c.places.next (c.places.next - 1)
    (omega (arith, some)) c.places.invariant in
    let there = taken_same c.args.rows.now.rows c.args.at (c.places.next - 1) c.read_row.new.codes within c.in_ok-read_row.ensures in
    is_not (λ found. c.requires.told c.args.row.now
    (subst (Contains (take c.args.at c.args.rows.now.rows)) (sym (c.is_same.ensures.0 c.if-is_same.true ∙ c.items.ensures))
    (Contains-at (take c.args.at c.args.rows.now.rows) (c.places.next - 1) c.read_row.new.codes there)) found.0 found.1 found.2)

pub returns-then-is_contrary : goal.returns-then-is_contrary
returns-then-is_contrary c =
    let some = c.places-test.true in
    let within = walk_there (take c.args.at c.args.rows.now.rows) c.args.row.now (length c.args.index.now.last) c.places.next (c.places.next - 1)
    (omega (arith, some)) c.places.invariant in
    let there = taken_same c.args.rows.now.rows c.args.at (c.places.next - 1) c.read_row.new.codes within c.in_ok-read_row.ensures in
    is_so (
      c.read_row.new.codes,
      Contains-at (take c.args.at c.args.rows.now.rows) (c.places.next - 1) c.read_row.new.codes there,
      subst (IsContrary c.args.row.now) c.items-in-places.ensures (c.is_contrary.ensures.0 c.if-is_contrary.true),
    )

pub places-preserved : goal.places-preserved
places-preserved c =
    let count = length c.args.index.now.last in
    let some = c.places-test.true in
    let is : c.places.next - 1 + 1 ≡ c.places.next = omega (arith, some) in
    let bucket = bucket_of count (drop 1 c.args.row.now) in
    let leads = c.requires.own.before (c.places.next - 1) bucket (c.places.invariant.own (c.places.next - 1) is) in
    walk_on (take c.args.at c.args.rows.now.rows) c.args.row.now count c.places.next (c.places.next - 1) c.before-next.result c.read_row.new.codes is
    (subst (LeadsOn (map (bucket_of count) (map (drop 1) (take c.args.at c.args.rows.now.rows))) bucket (c.places.next - 1))
    (sym (c.before-next.ensures.value leads.within)) leads) (taken_same c.args.rows.now.rows c.args.at (c.places.next - 1) c.read_row.new.codes
    (walk_there (take c.args.at c.args.rows.now.rows) c.args.row.now count c.places.next (c.places.next - 1) is c.places.invariant) c.in_ok-read_row.ensures)
    (λ contrary. false≢true (sym c.if-is_contrary.false ∙ c.is_contrary.ensures.1 (subst (IsContrary c.args.row.now) (sym c.items-in-places.ensures) contrary)))
    c.places.invariant

pub returns : goal.returns
returns c = is_not (walk_end (take c.args.at c.args.rows.now.rows) c.args.row.now (length c.args.index.now.last) c.places.next
    c.places-test.false c.places.invariant)
