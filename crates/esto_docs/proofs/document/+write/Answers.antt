use Rattle.std.proofs.Common.{◌≡◌, ◌∷◌, [], List, None, slice_get, refl, ap, arith, sym, ◌∙◌}
use Rattle.std.proofs.lemmas.List.{drop_all}
use Rattle.std.proofs.lemmas.Result.{IfOk-weaker}
use Rattle.serde_json.specs.Data.{Data, array, item, no_items, object, string}
use Rattle.serde_json.proofs.Views.{view-Object}
use Rattle.serde_json.specs.View.{view, members_view}
use Rattle.serde_json.specs.declared.value.Value as json
use Rattle.esto_docmodel.specs.Shapes.{entries_of}
use Rattle.esto_docmodel.specs.declared.pattern.Entry.{Entry}
use Rattle.esto_docmodel.specs.declared.pattern.Step.{Step}
use Rattle.esto_docs.specs.Documents.{document, first_name, later_steps, members, path_data}
use Rattle.esto_docs.proofs.GroupLemmas.{fields_first, group_data, item_first, members_go, text_data, value_data}
use Rattle.esto_docs.proofs.document.+write.Goals as goal

none_first : (entries : List Entry) → slice_get entries 0 ≡ None → entries ≡ []
none_first [] is = refl
none_first (first ∷ rest) is = cc is

pub members_of-entries-preserved : goal.members_of-entries-preserved
members_of-entries-preserved t c =
    let held = c.entries.invariant in (
      omega (arith, held.0),
      members_go c.args.row.now c.args.entries.now c.entries.left c.index-entries-left.result c.index-entries-left.result _ _ _ _ c.entries-test.true held.0
          c.index-entries-left.is held.1 (c.first_name.ensures ∙ ap first_name c.path_of.ensures.first) c.in_ok-value.ensures
          c.in_ok-put_named.ensures,
    )

pub entry_value-returns-in_ok-string_of-in-Value : goal.entry_value-returns-in_ok-string_of-in-Value
entry_value-returns-in_ok-string_of-in-Value t c =
    let cell = view (json.String c.in_ok-string_of-in-Value.field-0) in
    let wrapped =
    ap (λ (path : List Step). path_data path cell) (c.later_steps.ensures ∙ ap later_steps c.items.ensures)
    ∙ ap (path_data (later_steps c.in-Value.path)) (text_data c.in_ok-string_of-in-Value.field-0
    ∙ ap string (c.in_ok-string_of-in-Value.ensures ∙ c.text_in.ensures))
    ∙ sym (value_data c.args.entry.now c.in-Value.path c.in-Value.term c.args.row.now c.in-Value.is) in
    IfOk-weaker c.wrap_all.result _ _ (λ it is. is ∙ wrapped) c.wrap_all.ensures

pub entry_value-returns-in_ok-inner-in-Group : goal.entry_value-returns-in_ok-inner-in-Group
entry_value-returns-in_ok-inner-in-Group t c =
    let inner = view c.in_ok-inner-in-Group.inner in
    let wrapped =
    ap (λ (path : List Step). path_data path inner) (c.later_steps-in-Group.ensures ∙ ap later_steps c.items-in-Group-2.ensures)
    ∙ ap (path_data (later_steps c.in-Group.path)) (c.in_ok-inner-in-Group.ensures
    ∙ ap (λ (entries : List Entry). document (entries_of entries) c.args.row.now) c.items-in-Group.ensures)
    ∙ sym (group_data c.args.entry.now c.in-Group.path c.in-Group.entries c.args.row.now c.in-Group.is) in
    IfOk-weaker c.wrap_all-in-Group.result _ _ (λ it is. is ∙ wrapped) c.wrap_all-in-Group.ensures

pub document_of-returns-then-begins_with_field : goal.document_of-returns-then-begins_with_field
document_of-returns-then-begins_with_field t c =
    view-Object c.in_ok-members_of.field-0 ∙ ap object c.in_ok-members_of.ensures
    ∙ fields_first c.args.entries.now c.in-Some.first.now c.args.row.now c.path_of.result.now c.in-Some.ensures.value c.path_of.ensures.first
    (sym c.begins_with_field.ensures ∙ c.if-begins_with_field.true)

pub document_of-returns : goal.document_of-returns
document_of-returns t c =
    let whole =
    ap (λ (own : Data). array (item own no_items)) c.in_ok-value.ensures
    ∙ item_first c.args.entries.now c.in-Some.first.now c.args.row.now c.path_of.result.now c.in-Some.ensures.value c.path_of.ensures.first
    (sym c.begins_with_field.ensures ∙ c.if-begins_with_field.false) in
    IfOk-weaker c.array_of.result _ _ (λ it is. is ∙ whole) c.array_of.ensures

pub document_of-returns-in_default : goal.document_of-returns-in_default
document_of-returns-in_default t c =
    view-Object c.new.result ∙ ap (λ es. object (members_view es)) c.new.ensures.empty
    ∙ sym (ap (λ (es : List Entry). document (entries_of es) c.args.row.now) (none_first c.args.entries.now (sym c.in_default.ensures.value)))

pub members_of-entries-init : goal.members_of-entries-init
members_of-entries-init t c = (
  omega arith,
  ap members_view c.new-members.ensures.empty
      ∙ sym (ap (λ (es : List Entry). members (entries_of es) c.args.row.now) (drop_all _ c.args.entries.now (omega arith))),
)
