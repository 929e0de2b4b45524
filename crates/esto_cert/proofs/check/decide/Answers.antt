use Rattle.std.proofs.Common.{List, ℕ, ◌<◌, Contains, length, subst, sym}
use Rattle.esto_query.specs.Making.{query_of}
use Rattle.esto_semantics.specs.declared.expanded.ExpandedFact.{ExpandedFact}
use Rattle.esto_cert.proofs.ExpansionLemmas.{place_below}
use Rattle.esto_cert.proofs.VerdictLemmas.{decided, same_case}
use Rattle.esto_cert.proofs.check.decide.Goals as goal

pub verdict-requires : goal.verdict-requires
verdict-requires c = λ fact inside.
    let there = subst (λ (it : List ExpandedFact). Contains it fact) c.items.ensures inside in (
      subst (λ (it : ℕ). fact.atom < it) (sym c.requires.count) ((c.in_ok-expanded.ensures.expands.exact fact).0 there).0,
      subst (λ (it : List ExpandedFact). fact.place < length it) (sym c.items.ensures)
          (place_below c.args.fragments.now 0 _ c.args.plan.now.atoms c.in_ok-expanded.expanded c.in_ok-expanded.ensures.exact fact there),
    )

pub returns : goal.returns
returns c = (
  c.in_ok-expanded.expanded,
  c.in_ok-expanded.ensures.exact,
  c.in_ok-expanded.ensures.expands,
  c.in_ok-expanded.ensures.flat,
  decided _ _ c.args.bytes.now _ _
      (same_case c.args.set.now (query_of c.args.query.now) _ _ _ _ _ _ c.items.ensures c.items-2.ensures c.items-3.ensures) c.in-None.is
      c.in_ok-line.ensures,
)
