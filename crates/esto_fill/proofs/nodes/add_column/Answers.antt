use Rattle.std.proofs.Common.{[], ◌∷◌, sym, ◌∙◌, subst, Contains}
use Rattle.std.proofs.lemmas.Result.{on_ok_weaker}
use Rattle.std.proofs.lemmas.List.Elements.{Contains-append_left, Contains-append_right}
use Rattle.esto_term.proofs.ListLemmas.{Contains-head}
use Rattle.esto_fill.specs.Nodes.{column_of}
use Rattle.esto_fill.proofs.NodeLemmas.{among}
use Rattle.esto_fill.proofs.nodes.add_column.Goals as goal

pub returns-then-is_constant : goal.returns-then-is_constant
returns-then-is_constant c = ((λ it inside. inside), λ apart. absurd (apart (c.is_constant.ensures.0 c.if-is_constant.true)))

pub returns-then-is_among : goal.returns-then-is_among
returns-then-is_among c = (
  (λ it inside. inside),
  λ apart. subst (λ those. Contains those (column_of c.args.relation c.args.column)) c.items.ensures
      (among c.args.relation c.args.column c.items.result.now (sym c.is_among.ensures ∙ c.if-is_among.true)),
)

pub returns : goal.returns
returns c =
    let own = column_of c.args.relation c.args.column in
    on_ok_weaker c.push.result (λ pushed. (
      (λ it inside. subst (λ those. Contains those it) (sym pushed) (Contains-append_left c.args.columns.now (own ∷ []) it inside)),
      λ apart. subst (λ those. Contains those own) (sym pushed) (Contains-append_right c.args.columns.now (own ∷ []) own (Contains-head own [])),
    )) c.push.ensures.ok
