use Rattle.std.proofs.Common.{List, ℕ, sym, subst}
use Rattle.esto_semantics.specs.Maps.{AreFlat}
use Rattle.esto_fill.specs.Files.{AreWantedOf}
use Rattle.esto_fill.proofs.FileLemmas.{append_flat, load_more}
use Rattle.esto_fill.proofs.ValueLemmas.{flat_kept}
use Rattle.esto_fill.proofs.datasets.load_dataset.Goals as goal

pub invariant_of-result : goal.invariant_of-result
invariant_of-result c = record {
  sound = ∣ subst AreFlat (sym c.in_ok-facts.ensures)
      (append_flat c.args.loaded.facts c.in_ok-own.own.facts (flat_kept c.args.loaded.facts c.args.loaded.sound) c.in_ok-own.ensures.1.flat) ∣₁;
}

pub returns-clause-loaded : goal.returns-clause-loaded
returns-clause-loaded c files before =
    let dataset = c.item-dataset.result.now in
    load_more c.args.catalogue.now.datasets c.args.wanted.now files c.args.number c.args.bytes.now dataset c.args.loaded c.in_ok-own.own
    c.in_ok-facts.facts before c.item-dataset.ensures
    (subst (λ (bytes : List ℕ). AreWantedOf dataset.model dataset c.args.wanted.now bytes c.args.loaded.next c.in_ok-own.own) c.bytes.ensures
    c.in_ok-own.ensures.1)
    c.in_ok-facts.ensures
