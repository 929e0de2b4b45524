use Rattle.std.proofs.Common.{inl, inr, refl, sym, ◌∙◌}
use Rattle.std.proofs.lemmas.Bool.{false≢true}
use Rattle.esto_read.proofs.rule.demand_fixed.Goals as goal

pub returns-then-not-is_fixed : goal.returns-then-not-is_fixed
returns-then-not-is_fixed c = record {
  fixed = tt;
  error = (
    c.args.left.start,
    inl (λ fixed. false≢true (sym c.if-not-is_fixed.true ∙ c.is_fixed.ensures.1 fixed), refl),
    c.fault_at.ensures,
  );
}

pub returns-then-not-is_fixed-2 : goal.returns-then-not-is_fixed-2
returns-then-not-is_fixed-2 c = record {
  fixed = tt;
  error = (
    c.args.right.start,
    inr (
      c.is_fixed.ensures.0 c.if-not-is_fixed.false,
      λ fixed. false≢true (sym c.if-not-is_fixed-2.true ∙ c.is_fixed-2.ensures.1 fixed),
      refl,
    ),
    c.fault_at-then-not-is_fixed-2.ensures,
  );
}

pub returns : goal.returns
returns c = record {
  fixed = (c.is_fixed.ensures.0 c.if-not-is_fixed.false, c.is_fixed-2.ensures.0 c.if-not-is_fixed-2.false);
  error = tt;
}
