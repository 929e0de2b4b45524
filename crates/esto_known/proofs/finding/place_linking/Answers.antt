use Rattle.std.proofs.Common.{◌≡◌, ◌+◌, ◌-◌, ◌∷◌, [], ap, sym, ◌∙◌, arith, length}
use Rattle.std.specs.Prelude.{slice_index_or}
use Rattle.std.proofs.lemmas.Bool.{false≢true}
use Rattle.esto_columns.specs.Indexed.{bucket_of}
use Rattle.esto_chase_laws.specs.declared.entry.Claim.TheVariants.{Same}
use Rattle.esto_known.specs.Hashes.{claim_key, pair_hash}
use Rattle.esto_known.proofs.IndexLemmas.{seek_start, seek_more, linking_none}
use Rattle.esto_known.proofs.finding.place_linking.Goals as goal

pub places-init : goal.places-init
places-init c =
    seek_start c.args.keys.now.by_claim _ (claim_key (Same c.args.term.now c.args.other.now)) _ c.last_of-next.result c.requires.by_claim
    (c.last_of-next.ensures ∙ ap (λ key. slice_index_or c.args.keys.now.by_claim.last (bucket_of (length c.args.keys.now.by_claim.last) key) 0)
    (ap (λ it. it ∷ []) (c.pair_hash.ensures ∙ (λ i. pair_hash (c.term_hash.ensures i) (c.term_hash-2.ensures i)))))

pub places-preserved : goal.places-preserved
places-preserved c =
    let some = c.places-test.true in
    let is : c.places.next - 1 + 1 ≡ c.places.next = omega (arith, some) in
    seek_more c.args.keys.now.by_claim _ (claim_key (Same c.args.term.now c.args.other.now)) _ c.places.next (c.places.next - 1) c.before-next.result
    c.requires.by_claim c.places.invariant is (λ holds. false≢true (sym c.if-links_at.false ∙ c.links_at.ensures.1 holds)) c.before-next.ensures.value

pub returns : goal.returns
returns c = linking_none c.args.groups.now c.args.keys.now.by_claim c.args.term.now c.args.other.now c.places.next c.places-test.false c.places.invariant
