use Rattle.std.proofs.Common.{◌↔◌, IsTrue, Contains, map, subst, arith}
use Rattle.std.proofs.lemmas.Bool.{false≢true}
use Rattle.std.proofs.lemmas.Option.{slice_get_within}
use Rattle.std.proofs.lemmas.List.{length-map}
use Rattle.esto_views.specs.Plans.{fact_of}
use Rattle.esto_access.proofs.AtomLemmas.{occurs}
use Rattle.esto_access.proofs.atoms.occurs_at.Goals as goal

pub returns-then-number-len : goal.returns-then-number-len
returns-then-number-len c = (
  λ e. absurd (false≢true e),
  λ found. let within = slice_get_within (map fact_of c.args.plan.now.atoms) c.args.number found.0 found.1 in
      let same = length-map c.args.plan.now.atoms fact_of in absurd (omega (arith, within, same, c.if-number-len.true, c.len.ensures)),
)

pub returns : goal.returns
returns c =
    occurs c.args.plan.now.atoms c.args.number c.item.result.now c.item.ensures c.args.term.now c.has_term.result
    (subst (λ terms. IsTrue c.has_term.result ↔ Contains terms c.args.term.now) c.items.ensures c.has_term.ensures)
