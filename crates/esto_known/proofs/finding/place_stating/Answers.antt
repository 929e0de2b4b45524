use Rattle.std.proofs.Common.{◌≡◌, ◌+◌, ◌-◌, ◌∷◌, [], ap, sym, ◌∙◌, arith, length}
use Rattle.std.specs.Prelude.{slice_index_or}
use Rattle.std.proofs.lemmas.Bool.{false≢true}
use Rattle.esto_columns.specs.Indexed.{bucket_of}
use Rattle.esto_chase_laws.specs.declared.entry.Claim.TheVariants.{Fact as Stated}
use Rattle.esto_known.specs.Hashes.{claim_key}
use Rattle.esto_known.proofs.IndexLemmas.{seek_start, seek_more, stating_none}
use Rattle.esto_known.proofs.finding.place_stating.Goals as goal

pub places-init : goal.places-init
places-init c =
    seek_start c.args.keys.now.by_claim _ (claim_key (Stated c.args.fact.now)) _ c.last_of-next.result c.requires.by_claim
    (c.last_of-next.ensures ∙ ap (λ key. slice_index_or c.args.keys.now.by_claim.last (bucket_of (length c.args.keys.now.by_claim.last) key) 0)
    (ap (λ it. it ∷ []) c.fact_hash.ensures))

pub places-preserved : goal.places-preserved
places-preserved c =
    let some = c.places-test.true in
    let is : c.places.next - 1 + 1 ≡ c.places.next = omega (arith, some) in
    seek_more c.args.keys.now.by_claim _ (claim_key (Stated c.args.fact.now)) _ c.places.next (c.places.next - 1) c.before-next.result c.requires.by_claim
    c.places.invariant is (λ holds. false≢true (sym c.if-states_at.false ∙ c.states_at.ensures.1 holds)) c.before-next.ensures.value

pub returns : goal.returns
returns c = stating_none c.args.groups.now c.args.keys.now.by_claim c.args.fact.now c.places.next c.places-test.false c.places.invariant
