use Rattle.std.proofs.Common.{◌+◌, ◌∙◌, length, refl, subst, sym, arith}
use Rattle.std.proofs.lemmas.Option.{slice_get_read}
use Rattle.esto_derive.proofs.ChainLemmas.{AreLinksBelow, links_more, links_same, links_all}
use Rattle.esto_derive.proofs.world.all_links.Goals.{then-is_link+in_ok-push, else-is_link}
use Rattle.esto_derive.proofs.world.all_links.Goals as goal

pub entries-preserved : goal.entries-preserved
entries-preserved c =
    let entries = c.args.entries.now in
    let entry = c.index-entries-place.result in
    let at = slice_get_read entries (length entries) c.entries.place entry refl c.entries-test.true c.index-entries-place.is in
    elim c.if-is_link.branch [
      | then-is_link+in_ok-push w ↦ links_more entries c.args.set.now c.entries.place entry at c.entries.links c.entries.invariant
          (c.is_link.ensures.0 w.if-is_link.true) c.if-is_link.links (w.links-is ∙ w.in_ok-push.ensures.ok)
      | else-is_link w ↦ subst (AreLinksBelow entries c.args.set.now (c.entries.place + 1)) (sym w.links-is)
          (links_same entries c.args.set.now c.entries.place entry at c.entries.links c.entries.invariant
          (λ is. let told = c.is_link.ensures.1 is in let not_told = w.if-is_link.false in cc))
    ]

pub returns : goal.returns
returns c = links_all c.args.entries.now c.args.set.now c.entries.place c.entries.links (omega (arith, c.entries-test.false)) c.entries.invariant
