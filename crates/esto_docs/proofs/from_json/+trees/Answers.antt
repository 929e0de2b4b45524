use Rattle.std.proofs.Common.{◌∙◌, ◌++◌, ◌∷◌, [], List, true, false, string_cmp, sym, ap, subst, append_assoc}
use Rattle.std.proofs.lemmas.List.{append-nil, take_all}
use Rattle.std.proofs.lemmas.Result.{IfOk-weaker}
use Rattle.std.specs.List.Sorted.{IsStrictlySortedBy}
use Rattle.std.specs.Map.{keys_of}
use Rattle.serde_json.specs.Data.{boolean, null, number, string}
use Rattle.serde_json.specs.View.{number_view, view, items_view, members_view}
use Rattle.serde_json.specs.declared.value.Value.{Value}
use Rattle.serde_json.specs.declared.value.Value as json
use Rattle.serde_json.proofs.Views.{Entry, view-Array, view-Object}
use Rattle.esto_docs.specs.Trees.{tree_of, trees_of, fields_of}
use Rattle.esto_docmodel.specs.Names.{Rise}
use Rattle.esto_docmodel.specs.declared.tree.Tree.{Tree}
use Rattle.esto_docmodel.specs.declared.tree.Tree.TheVariants.{Items, Fields}
use Rattle.esto_docmodel.specs.declared.tree.Tree.TheVariants as tree
use Rattle.std.specs.Prelude.{string_bytes}
use Rattle.esto_docs.proofs.FactLemmas.{tree_as, view_bool, view_null, view_number}
use Rattle.esto_docs.proofs.GroupLemmas.{text_data}
use Rattle.esto_docs.proofs.TreeLemmas.{trees_go, fields_go, fields_push, rises}
use Rattle.esto_docs.proofs.from_json.+trees.Goals as goal

pub trees_of-items-preserved : goal.trees_of-items-preserved
trees_of-items-preserved t c =
    trees_go c.deref-item-items.result.now c.items.item-index c.item-item.result _ c.items.trees _ c.items-test.true c.item-item.is c.items.invariant
    (c.in_ok-push.ensures.ok ∙ ap (λ (x : Tree). c.items.trees ++ x ∷ []) c.in_ok-tree.ensures)

pub fields_of-push_field-requires : goal.fields_of-push_field-requires
fields_of-push_field-requires t c =
    let gone = c.members.invariant.0 in
    let e : Entry = (c.in-Some.name.now, c.in-Some.value.now) in
    let all = c.members.invariant.1 ∙ ap (λ es. gone ++ es) c.in-Some.ensures.steps in
    let sorted = subst (λ es. IsStrictlySortedBy string_cmp (keys_of es)) all c.iter-name-items.ensures.ordered in
    subst Rise (fields_push gone e ∙ sym (fields_go c.members.fields (fields_of (members_view gone)) _ _ _ _ c.members.invariant.2
    c.as_str.ensures.value c.in_ok-tree.ensures)) (rises gone e c.next.new.self sorted)

pub fields_of-members-preserved : goal.fields_of-members-preserved
fields_of-members-preserved t c =
    let gone = c.members.invariant.0 in
    let e : Entry = (c.in-Some.name.now, c.in-Some.value.now) in (
      gone ++ e ∷ [],
      c.members.invariant.1 ∙ ap (λ es. gone ++ es) c.in-Some.ensures.steps ∙ sym (append_assoc gone (e ∷ []) c.next.new.self),
      c.in_ok-push_field.ensures
          ∙ fields_go c.members.fields (fields_of (members_view gone)) _ _ _ _ c.members.invariant.2 c.as_str.ensures.value c.in_ok-tree.ensures
          ∙ sym (fields_push gone e),
    )

pub trees_of-returns : goal.trees_of-returns
trees_of-returns t c =
    c.items.invariant
    ∙ ap (λ (values : List Value). trees_of (items_view values))
    (take_all c.items.item-index c.deref-item-items.result.now c.items-test.false ∙ c.deref-item-items.ensures.value)

pub fields_of-returns : goal.fields_of-returns
fields_of-returns t c =
    let gone = c.members.invariant.0 in
    c.members.invariant.2
    ∙ ap (λ (entries : List Entry). fields_of (members_view entries))
    (sym (c.members.invariant.1 ∙ ap (λ (left : List Entry). gone ++ left) c.in-None.ensures.steps.0 ∙ append-nil gone))

pub tree_of-returns-in_ok-trees_of-in-Array : goal.tree_of-returns-in_ok-trees_of-in-Array
tree_of-returns-in_ok-trees_of-in-Array t c =
    ap Items c.in_ok-trees_of-in-Array.ensures
    ∙ sym (ap (λ (value : Value). tree_of (view value)) c.in-Array.is ∙ ap tree_of (view-Array c.in-Array.items))

pub tree_of-returns-in_ok-fields_of-in-Object : goal.tree_of-returns-in_ok-fields_of-in-Object
tree_of-returns-in_ok-fields_of-in-Object t c =
    ap Fields c.in_ok-fields_of-in-Object.ensures
    ∙ sym (ap (λ (value : Value). tree_of (view value)) c.in-Object.is ∙ ap tree_of (view-Object c.in-Object.members))

pub tree_of-returns-in-Null : goal.tree_of-returns-in-Null
tree_of-returns-in-Null t c = sym (tree_as c.args.value.now json.Null null c.in-Null.is view_null)

pub tree_of-returns-in-Bool-true : goal.tree_of-returns-in-Bool-true
tree_of-returns-in-Bool-true t c =
    let is_true = c.in-Bool-true.is ∙ ap json.Bool (sym c.in-Bool-true.field-0-is ∙ c.in-Bool-true.field-0-test) in
    IfOk-weaker c.value_of.result _ _
    (λ it is. is ∙ sym (tree_as c.args.value.now (json.Bool true) (boolean true) is_true (view_bool true))) c.value_of.ensures

pub tree_of-returns-in-Bool-false : goal.tree_of-returns-in-Bool-false
tree_of-returns-in-Bool-false t c =
    let is_false = c.in-Bool-false.is ∙ ap json.Bool (sym c.in-Bool-false.field-0-is ∙ c.in-Bool-false.field-0-test) in
    IfOk-weaker c.value_of-in-Bool-false.result _ _
    (λ it is. is ∙ sym (tree_as c.args.value.now (json.Bool false) (boolean false) is_false (view_bool false)))
    c.value_of-in-Bool-false.ensures

pub tree_of-returns-in-Number : goal.tree_of-returns-in-Number
tree_of-returns-in-Number t c =
    let own = c.in-Number.number in
    IfOk-weaker c.number_of.result _ _
    (λ it is. is ∙ sym (tree_as c.args.value.now (json.Number own) (number (number_view own)) c.in-Number.is (view_number own))) c.number_of.ensures

pub tree_of-returns-in-String : goal.tree_of-returns-in-String
tree_of-returns-in-String t c =
    let text = c.in-String.text in
    IfOk-weaker c.value_of-in-String.result _ _
    (λ it is. is ∙ ap tree.Value c.as_str.ensures.value
    ∙ sym (tree_as c.args.value.now (json.String text) (string (string_bytes text)) c.in-String.is (text_data text))) c.value_of-in-String.ensures
