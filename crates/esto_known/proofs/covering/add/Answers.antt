use Rattle.std.proofs.Common.{inl, inr, sym, refl, ◌++◌, ◌∷◌, [], ◌∙◌, ap}
use Rattle.std.proofs.lemmas.Bool.{false≢true}
use Rattle.std.proofs.lemmas.Result.{on_ok_weaker}
use Rattle.esto_known.proofs.covering.add.Goals as goal

pub returns-then-is_covered : goal.returns-then-is_covered
returns-then-is_covered c = inl (c.is_covered.ensures.0 c.if-is_covered.true, refl)

pub returns : goal.returns
returns c = on_ok_weaker c.push.result (λ pushed. inr (
  (λ covered. false≢true (sym c.if-is_covered.false ∙ c.is_covered.ensures.1 covered)),
  pushed ∙ ap (λ it. c.args.entries.now ++ it ∷ []) c.in_ok-own.ensures,
)) c.push.ensures
