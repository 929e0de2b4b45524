use Rattle.std.proofs.Common.{ℕ, [], ◌+◌, ◌∷◌, ◌≡◌, length, slice_get, Some, refl, sym, subst, ap, ◌∙◌, arith}
use Rattle.std.proofs.lemmas.List.{length-append}
use Rattle.std.proofs.lemmas.Option.{slice_get_read}
use Rattle.esto_derive.proofs.StateLemmas.{state_start, used_goes}
use Rattle.esto_derive.proofs.writing.Writer.write_used.Goals as goal

pub entries-init : goal.entries-init
entries-init c = record {
  placed = ap length c.new-lines.ensures;
  few = omega (arith, c.requires.count);
  writes = λ case rules_is basis.
      state_start case c.args.self.now.entries.now c.args.self.now.used.now c.new-lines.result c.args.written.now c.new-lines.ensures c.requires.text
      c.requires.count;
}

pub entries-preserved : goal.entries-preserved
entries-preserved c =
    let at = subst (λ (it : ℕ). slice_get c.args.self.now.entries.now it ≡ Some c.entry-item.result) (sym c.entries.invariant.placed)
    (slice_get_read c.args.self.now.entries.now (length c.args.self.now.entries.now) c.entries.entry-index c.entry-item.result refl c.entries-test.true
    c.entry-item.is) in
    record {
      placed = ap length c.in_ok-push.ensures.ok ∙ length-append c.entries.lines (c.in_ok-own.own ∷ []) ∙ ap (λ (it : ℕ). it + 1) c.entries.invariant.placed;
      few = omega (arith, c.entries.invariant.few, c.in_ok-own.ensures.count);
      writes = λ case rules_is basis.
          used_goes c.args.self.now.rules.now c.args.self.now.entries.now c.args.self.now.used.now c.entries.lines c.items.result.now c.push.new.self
          c.entry-item.result c.entries.written c.write_if_used.new.written
          c.in_ok-own.own c.items.ensures at c.in_ok-own.ensures.writes c.in_ok-push.ensures.ok case rules_is basis
          (c.entries.invariant.writes case rules_is basis);
    }
