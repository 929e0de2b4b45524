use Rattle.std.proofs.Common.{◌∙◌, List, ap, subst, sym, map}
use Rattle.std.specs.Prelude.{option_map}
use Rattle.serde_json.specs.View.{view, items_view}
use Rattle.serde_json.specs.declared.value.Value.{Value}
use Rattle.esto_docs.specs.Filling.{value_node}
use Rattle.esto_docs.proofs.HoldingLemmas.{AreItems, as_array_is, items_are, no_items_are}
use Rattle.esto_docs.proofs.holding.items_of.Goals as goal

pub returns-in-Some : goal.returns-in-Some
returns-in-Some c =
    subst (λ (vs : List Value). AreItems (view c.args.value.now) (map (λ v. value_node (view v)) vs)) (sym c.as_slice.ensures.value)
    (items_are (view c.args.value.now) c.in-Some.items.now.items
    (as_array_is (view c.args.value.now) _ (sym c.as_array.ensures ∙ ap (option_map (λ v. items_view v.now.items)) c.in-Some.is)))

pub returns-in-None : goal.returns-in-None
returns-in-None c = no_items_are (view c.args.value.now) (sym c.as_array.ensures ∙ ap (option_map (λ v. items_view v.now.items)) c.in-None.is)
