use Rattle.std.proofs.Common.{sym, ◌∙◌, arith}
use Rattle.std.proofs.lemmas.Result.{IfOk-weaker}
use Rattle.esto_semantics.proofs.SubstitutionLemmas.{substituted_here, substituted_later}
use Rattle.esto_views.proofs.spread.Spread.term.Goals as goal
use Rattle.esto_term.proofs.ListLemmas.{thing_at}

pub returns-then-is_eq : goal.returns-then-is_eq
returns-then-is_eq c =
    let here = substituted_here c.args.self.now.from c.args.self.now.to c.places.place c.args.term.now c.item.result.now c.item-then-is_eq.result.now
    c.is_eq.result
    c.item.ensures c.item-then-is_eq.ensures (rw c.compare.ensures at c.is_eq.ensures) c.if-is_eq.true in
    IfOk-weaker c.copy.result _ _ (λ target is. is ∙ sym here ∙ c.places.invariant) c.copy.ensures

pub places-preserved : goal.places-preserved
places-preserved c =
    let target = thing_at c.args.self.now.to c.places.place (omega arith) in
    substituted_later c.args.self.now.from c.args.self.now.to c.places.place c.args.term.now c.item.result.now target.0 c.is_eq.result
    c.item.ensures target.1 (rw c.compare.ensures at c.is_eq.ensures) c.if-is_eq.false
    ∙ c.places.invariant
