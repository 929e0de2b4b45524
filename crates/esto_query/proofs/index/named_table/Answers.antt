use Rattle.std.proofs.Common.{sym, subst}
use Rattle.esto_query.specs.Indexes.{IsTableOf}
use Rattle.esto_table.specs.Numbers.{AreInOrder}
use Rattle.esto_table.proofs.NumberLemmas.{names_none}
use Rattle.esto_query.proofs.index.named_table.Goals as goal

pub returns : goal.returns
returns c = (
  subst AreInOrder (sym c.new.ensures.items) names_none,
  subst (λ names. IsTableOf c.args.facts.now c.args.columns.now names c.in_ok-terms.terms) (sym c.new.ensures.items) c.in_ok-terms.ensures,
)
