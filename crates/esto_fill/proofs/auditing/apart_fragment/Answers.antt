use Rattle.std.proofs.Common.{◌≤◌, length, arith}
use Rattle.esto_query.specs.Making.{query_of}
use Rattle.esto_term.proofs.ListLemmas.{Contains-at, map_at}
use Rattle.esto_views.specs.Fragments.{views_of}
use Rattle.esto_views.specs.declared.fragments.FragmentDef.{FragmentDef}
use Rattle.esto_fill.specs.Databases.{database_of}
use Rattle.esto_fill.proofs.DifferenceLemmas.{all_one, first_apart, one_more}
use Rattle.esto_fill.proofs.auditing.apart_fragment.Goals as goal

pub apart_of-requires-clause-texts : goal.apart_of-requires-clause-texts
apart_of-requires-clause-texts c =
    let fragments = c.args.fragments.now in
    let fragment = c.item-fragment.result.now in
    c.requires.texts (query_of fragment.view) (Contains-at (views_of fragments) c.fragments.number (query_of fragment.view)
    (map_at (λ (its : FragmentDef). query_of its.view) fragments c.fragments.number fragment c.item-fragment.ensures))

pub returns-in-Some : goal.returns-in-Some
returns-in-Some c =
    let judged = rw c.in-Some.is at c.in_ok-difference.ensures in
    first_apart c.args.fragments.now (database_of c.args.facts.now) c.args.rows.now c.fragments.number c.item-fragment.result.now c.item.result.now
    c.item-fragment.ensures c.item.ensures c.in-Some.difference judged c.fragments.invariant

pub fragments-preserved : goal.fragments-preserved
fragments-preserved c =
    let judged = rw c.in_default.is at c.in_ok-difference.ensures in
    one_more c.args.fragments.now (database_of c.args.facts.now) c.args.rows.now c.fragments.number c.item-fragment.result.now c.item.result.now
    c.item-fragment.ensures c.item.ensures judged c.fragments.invariant

pub returns : goal.returns
returns c =
    let past = c.fragments-test.false in
    let long = c.len-number-end.ensures in
    let all : length c.args.fragments.now ≤ c.fragments.number = omega (arith, past, long) in
    all_one c.args.fragments.now (database_of c.args.facts.now) c.args.rows.now c.requires.many c.requires.texts c.fragments.number all c.fragments.invariant
