-- The entries of a pattern, one by one.
use Rattle.std.proofs.Common.{◌≡◌, ◌<◌, ◌≤◌, ◌+◌, ◌-◌, ◌∙◌, ◌∷◌, [], ℕ, List, length, drop, get_or, refl, ap, sym, subst, arith, rules, String, Global}
use Rattle.std.proofs.Common.{string_bytes, Bool, true, false, if◌then◌else◌, Some, None, slice_get}
use Rattle.std.proofs.lemmas.List.{at_drop_more}
use Rattle.serde_json.specs.Data.{Data, Members, array, item, no_items, object, put, string}
use Rattle.serde_json.specs.View.{view}
use Rattle.serde_json.specs.declared.value.Value.{the_lemmas}
use Rattle.serde_json.specs.declared.value.Value as json
use Rattle.esto_docmodel.specs.Patterns.{Entries, done}
use Rattle.esto_docmodel.specs.Shapes.{More, entry_shape, entry_step, entries_of}
use Rattle.esto_docmodel.specs.declared.pattern.Entry.{Entry, fold_out-Entry}
use Rattle.esto_docmodel.specs.declared.pattern.Entry.TheOpen.{Entry-F}
use Rattle.esto_docmodel.specs.Layouts.{first_path}
use Rattle.esto_docmodel.specs.declared.pattern.Entry.TheVariants as entry
use Rattle.esto_docmodel.specs.declared.pattern.Step.{Step}
use Rattle.esto_docmodel.specs.declared.pattern.Step.TheVariants.{Name, Item, Below}
use Rattle.esto_docmodel.proofs.ShapeLemmas.{entry-Value, entry-Group}
use Rattle.esto_term.specs.declared.term.Term.{Term}
use Rattle.esto_docs.specs.Rows.{Row, text_in}
use Rattle.esto_docs.specs.Documents.{begins_with_field, first_name, begun, document, members, first_data, later_steps, path_data, step_data}

module _ (rest : Entries) (row : Row) where
  -- The first entry, and the members and the document that it makes with the others.
  MakesMembers : More → Type 0
  MakesMembers first = members (first rest) row ≡ put (first_name (first_path (first done))) (first_data (first done) row) (members rest row)

  MakesDocument : More → Type 0
  MakesDocument first = document (first rest) row ≡ begun (first_path (first done)) (first_data (first done) row) (members rest row)

  level_members : (e : Entry-F More) → MakesMembers (entry_step e)
  unfolding MakesMembers
  level_members (Entry-F.Value path term) = refl
  level_members (Entry-F.Group path inner) = refl

  level_document : (e : Entry-F More) → MakesDocument (entry_step e)
  unfolding MakesDocument
  level_document (Entry-F.Value path term) = refl
  level_document (Entry-F.Group path inner) = refl

  entry_members : (e : Entry) → MakesMembers (entry_shape e)
  entry_members e = subst MakesMembers (sym (fold_out-Entry More entry_step e)) (level_members _)

  entry_document : (e : Entry) → MakesDocument (entry_shape e)
  entry_document e = subst MakesDocument (sym (fold_out-Entry More entry_step e)) (level_document _)

pub members_first : (e : Entry) (es : List Entry) (row : Row)
    → members (entries_of (e ∷ es)) row ≡ put (first_name (first_path (entries_of (e ∷ [])))) (first_data (entries_of (e ∷ [])) row)
    (members (entries_of es) row)
unfolding MakesMembers
members_first e es row = entry_members (entries_of es) row e

pub document_first : (e : Entry) (es : List Entry) (row : Row)
    → document (entries_of (e ∷ es)) row ≡ begun (first_path (entries_of (e ∷ []))) (first_data (entries_of (e ∷ [])) row) (members (entries_of es) row)
unfolding MakesDocument
document_first e es row = entry_document (entries_of es) row e

-- A turn of the loop over the entries, from the last to the first.
pub members_go : (row : Row) (entries : List Entry) (left : ℕ) (e d : Entry) (old new : Members) (name : List ℕ) (value : Data) → 0 < left
    → left ≤ length entries
    → e ≡ get_or entries (left - 1) d → old ≡ members (entries_of (drop left entries)) row → name ≡ first_name (first_path (entries_of (e ∷ [])))
    → value ≡ first_data (entries_of (e ∷ [])) row → new ≡ put name value old → new ≡ members (entries_of (drop (left - 1) entries)) row
members_go row entries left e d old new name value some within at so_far n v p =
    let before : left - 1 < length entries = omega arith in
    let next : (left - 1) + 1 ≡ left = omega arith in
    p ∙ rw (n, v, so_far) refl ∙ sym (members_first e (drop left entries) row)
    ∙ ap (λ (x : Entry). members (entries_of (x ∷ drop left entries)) row) at
    ∙ ap (λ (k : ℕ). members (entries_of (get_or entries (left - 1) d ∷ drop k entries)) row) (sym next)
    ∙ sym (at_drop_more (λ es. members (entries_of es) row) entries (left - 1) d before)

-- ---- the steps of a path, from the last to the first

path_first : (step : Step) (path : List Step) (d : Data) → path_data (step ∷ path) d ≡ step_data step (path_data path d)
path_first (Name k) path d = refl
path_first Item path d = refl
path_first Below path d = refl

pub wraps_more : (steps : List Step) (left : ℕ) (step : Step) (inner outer whole : Data) → 0 < left → left ≤ length steps
    → step ≡ get_or steps (left - 1) step → inner ≡ path_data (drop left steps) whole → outer ≡ step_data step inner
    → outer ≡ path_data (drop (left - 1) steps) whole
wraps_more steps left step inner outer whole some within at so_far is =
    let before : left - 1 < length steps = omega arith in
    let next : (left - 1) + 1 ≡ left = omega arith in
    is ∙ ap (step_data step) so_far ∙ sym (path_first step (drop left steps) whole)
    ∙ ap (λ (it : Step). path_data (it ∷ drop left steps) whole) at
    ∙ ap (λ (k : ℕ). path_data (get_or steps (left - 1) step ∷ drop k steps) whole) (sym next)
    ∙ sym (at_drop_more (λ path. path_data path whole) steps (left - 1) step before)

-- ---- what an entry writes after its first step

pub text_data : (s : String Global) → view (json.String s) ≡ string (string_bytes s)
text_data s = search (rules, the_lemmas)

pub value_data : (e : Entry) (path : List Step) (term : Term) (row : Row) → e ≡ entry.Value path term
    → first_data (entries_of (e ∷ [])) row ≡ path_data (later_steps path) (string (text_in row term))
value_data e path term row is =
    ap (λ (x : Entry). first_data (entries_of (x ∷ [])) row) is ∙ ap (λ (es : Entries). first_data es row) (entry-Value path term done)

pub group_data : (e : Entry) (path : List Step) (inner : List Entry) (row : Row) → e ≡ entry.Group path inner
    → first_data (entries_of (e ∷ [])) row ≡ path_data (later_steps path) (document (entries_of inner) row)
group_data e path inner row is =
    ap (λ (x : Entry). first_data (entries_of (x ∷ [])) row) is ∙ ap (λ (es : Entries). first_data es row) (entry-Group path inner done)

-- ---- the document of entries, by the first of them

entries_split : (entries : List Entry) (first : Entry) → Some first ≡ slice_get entries 0 → (rest : List Entry) × (entries ≡ first ∷ rest)
entries_split [] first is = absurd (let clash : Some first ≡ None = is in cc)
entries_split (other ∷ rest) first is = let same : first ≡ other = cc in (rest, ap (λ (it : Entry). it ∷ rest) (sym same))

module _ (entries : List Entry) (first : Entry) (row : Row) (path : List Step) (is : Some first ≡ slice_get entries 0)
    (at : path ≡ first_path (entries_of (first ∷ []))) where
  begun_first : document (entries_of entries) row
      ≡ begun path (first_data (entries_of (first ∷ [])) row) (members (entries_of (entries_split entries first is).0) row)
  begun_first =
      let split = entries_split entries first is in
      ap (λ (es : List Entry). document (entries_of es) row) split.1 ∙ document_first first split.0 row
      ∙ ap (λ (p : List Step). begun p (first_data (entries_of (first ∷ [])) row) (members (entries_of split.0) row)) (sym at)

  pub fields_first : begins_with_field path ≡ true → object (members (entries_of entries) row) ≡ document (entries_of entries) row
  fields_first begins =
      let split = entries_split entries first is in
      let own = first_data (entries_of (first ∷ [])) row in
      let later = members (entries_of split.0) row in
      ap (λ (es : List Entry). object (members (entries_of es) row)) split.1 ∙ ap object (members_first first split.0 row)
      ∙ ap (λ (p : List Step). object (put (first_name p) own later)) (sym at)
      ∙ ap (λ (test : Bool). if test then object (put (first_name path) own later) else array (item own no_items)) (sym begins) ∙ sym begun_first

  pub item_first : begins_with_field path ≡ false
      → array (item (first_data (entries_of (first ∷ [])) row) no_items) ≡ document (entries_of entries) row
  item_first begins =
      let own = first_data (entries_of (first ∷ [])) row in
      let later = members (entries_of (entries_split entries first is).0) row in
      ap (λ (test : Bool). if test then object (put (first_name path) own later) else array (item own no_items)) (sym begins) ∙ sym begun_first
