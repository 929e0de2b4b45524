-- The documents of rows are of texts alone, and nest no deeper than their layout.
use Rattle.std.proofs.Common.{◌≤◌, ◌+◌, ◌-◌, ◌∷◌, [], ℕ, suc, max, List, Bool, true, false, length, cond, inl, inr, refl, arith, nat_cmp, Ordering, Less, Equal}
use Rattle.std.proofs.Common.{Greater}
use Rattle.std.specs.Cmp.Lexicographic.{slice_cmp}
use Rattle.std.specs.Ordering.{match_ordering}
use Rattle.serde_json.specs.Data.{Data, string, array, object, no_items, item, Members, no_members, member, put, depth, members_depth}
use Rattle.esto_docmodel.specs.Patterns.{Entries, done, holds, group}
use Rattle.esto_docmodel.specs.Layouts.{paths, AreFields, FitTogether, AreLaidOut, height, IsLayout}
use Rattle.esto_docmodel.specs.declared.pattern.Step.{Step}
use Rattle.esto_docmodel.specs.declared.pattern.Step.TheVariants.{Name, Item, Below}
use Rattle.esto_docs.specs.Rows.{Row, text_in}
use Rattle.esto_docs.specs.Documents.{path_data, begins_with_field, first_name, later_steps, begun, document, members}
use Rattle.esto_docs.specs.Plain.{HasTextsOnly, MembersHaveTextsOnly, IsContainer, IsPlain}
use Rattle.esto_docs.proofs.MatchLemmas.{fit_cases, as_object, as_array}
use Rattle.esto_docs.proofs.PathLemmas.{begins_name, has_steps}

-- A `put` among texts, and how deep it is.
put_texts_at : (o : Ordering) (k l : List ℕ) (d e : Data) (ms more : Members) → HasTextsOnly d → MembersHaveTextsOnly (member l e ms)
    → MembersHaveTextsOnly more
    → MembersHaveTextsOnly (match_ordering o (member k d (member l e ms)) (member l d ms) (member l e more))
put_texts_at Less k l d e ms more h m g = (h, m)
put_texts_at Equal k l d e ms more h m g = (h, m.1)
put_texts_at Greater k l d e ms more h m g = (m.0, g)

put_texts : (k : List ℕ) (d : Data) (ms : Members) → HasTextsOnly d → MembersHaveTextsOnly ms → MembersHaveTextsOnly (put k d ms)
put_texts k d no_members h m = (h, tt)
put_texts k d (member l e ms) h m = put_texts_at (slice_cmp nat_cmp k l) k l d e ms (put k d ms) h m (put_texts k d ms h m.1)

put_depth_at : (o : Ordering) (k l : List ℕ) (d e : Data) (ms more : Members) (n : ℕ) → depth d ≤ n → members_depth (member l e ms) ≤ n → members_depth more ≤ n
    → members_depth (match_ordering o (member k d (member l e ms)) (member l d ms) (member l e more)) ≤ n
put_depth_at Less k l d e ms more n h m g = omega arith
put_depth_at Equal k l d e ms more n h m g = omega arith
put_depth_at Greater k l d e ms more n h m g = omega arith

put_depth : (k : List ℕ) (d : Data) (ms : Members) (n : ℕ) → depth d ≤ n → members_depth ms ≤ n → members_depth (put k d ms) ≤ n
put_depth k d no_members n h m = omega arith
put_depth k d (member l e ms) n h m = put_depth_at (slice_cmp nat_cmp k l) k l d e ms (put k d ms) n h m (put_depth k d ms n h (omega arith))

path_texts : (path : List Step) (d : Data) → HasTextsOnly d → HasTextsOnly (path_data path d)
path_texts [] d h = h
path_texts (Name k ∷ path) d h = (path_texts path d h, tt)
path_texts (Item ∷ path) d h = (path_texts path d h, tt)
path_texts (Below ∷ path) d h = path_texts path d h

path_depth : (path : List Step) (d : Data) (n : ℕ) → depth d ≤ n → depth (path_data path d) ≤ length path + n
path_depth [] d n h = omega arith
path_depth (Name k ∷ path) d n h = let g = path_depth path d n h in omega arith
path_depth (Item ∷ path) d n h = let g = path_depth path d n h in omega arith
path_depth (Below ∷ path) d n h = let g = path_depth path d n h in omega arith

later_depth : (path : List Step) (d : Data) (n : ℕ) → 1 ≤ length path → depth d ≤ n → suc (depth (path_data (later_steps path) d)) ≤ length path + n
later_depth [] d n some h = absurd (omega arith)
later_depth (step ∷ path) d n some h = let g = path_depth path d n h in omega arith

begun_texts : (path : List Step) (first : Data) (rest : Members) → HasTextsOnly first → MembersHaveTextsOnly rest → HasTextsOnly (begun path first rest)
begun_texts path first rest h m = go (begins_with_field path) where
  go : (field : Bool) → HasTextsOnly (cond field (object (put (first_name path) first rest)) (array (item first no_items)))
  go true = put_texts (first_name path) first rest h m
  go false = (h, tt)

begun_contains : (path : List Step) (first : Data) (rest : Members) → IsContainer (begun path first rest)
begun_contains path first rest = go (begins_with_field path) where
  go : (field : Bool) → IsContainer (cond field (object (put (first_name path) first rest)) (array (item first no_items)))
  go true = tt
  go false = tt

mutual
  members_texts : (es : Entries) (row : Row) → MembersHaveTextsOnly (members es row)
  members_texts done row = tt
  members_texts (holds path term rest) row =
      put_texts (first_name path) _ (members rest row) (path_texts (later_steps path) (string (text_in row term)) tt) (members_texts rest row)
  members_texts (group path inner rest) row =
      put_texts (first_name path) _ (members rest row) (path_texts (later_steps path) (document inner row) (document_texts inner row)) (members_texts rest row)

  document_texts : (es : Entries) (row : Row) → HasTextsOnly (document es row)
  document_texts done row = tt
  document_texts (holds path term rest) row =
      begun_texts path _ (members rest row) (path_texts (later_steps path) (string (text_in row term)) tt) (members_texts rest row)
  document_texts (group path inner rest) row =
      begun_texts path _ (members rest row) (path_texts (later_steps path) (document inner row) (document_texts inner row)) (members_texts rest row)

document_contains : (es : Entries) (row : Row) → IsContainer (document es row)
document_contains done row = tt
document_contains (holds path term rest) row = begun_contains path _ (members rest row)
document_contains (group path inner rest) row = begun_contains path _ (members rest row)

-- What a first entry and the fields of the others nest.
begun_depth : (path : List Step) (rest : List (List Step)) (first : Data) (ms : Members) (n : ℕ) → FitTogether (path ∷ rest) → depth first ≤ n
    → (AreFields (path ∷ rest) → members_depth ms ≤ n) → depth (begun path first ms) ≤ suc n
begun_depth path rest first ms n fit h m = elim (fit_cases path rest fit) [
  | inl one ↦ rw (as_array path first ms one.0) (omega (arith, h))
  | inr fields ↦
      let both = put_depth (first_name path) first ms n h (m fields) in
      rw (as_object path first ms (begins_name path fields.0.0 fields.0.1).1) (omega (arith, both))
]

fit_steps : (path : List Step) (rest : List (List Step)) → FitTogether (path ∷ rest) → 1 ≤ length path
fit_steps path rest fit = elim (fit_cases path rest fit) [
  | inl one ↦ has_steps Item path one.0
  | inr fields ↦ has_steps (Name fields.0.0) path fields.0.1
]

mutual
  fields_depth : (row : Row) (columns : ℕ) (es : Entries) (n : ℕ) → AreLaidOut columns es → AreFields (paths es) → height es ≤ suc n
      → members_depth (members es row) ≤ n
  fields_depth row columns done n laid fields small = omega arith
  fields_depth row columns (holds path term rest) n laid fields small =
      let first = later_depth path (string (text_in row term)) 0 (has_steps (Name fields.0.0) path fields.0.1) (omega arith) in
      put_depth (first_name path) (path_data (later_steps path) (string (text_in row term))) (members rest row) n (omega (arith, first, small))
      (fields_depth row columns rest n laid.2 fields.1 (omega (arith, small)))
  fields_depth row columns (group path inner rest) n laid fields small =
      let first = later_depth path (document inner row) (height inner) (has_steps (Name fields.0.0) path fields.0.1)
      (document_depth row columns inner laid.2 laid.1) in
      put_depth (first_name path) (path_data (later_steps path) (document inner row)) (members rest row) n (omega (arith, first, small))
      (fields_depth row columns rest n laid.3 fields.1 (omega (arith, small)))

  document_depth : (row : Row) (columns : ℕ) (es : Entries) → AreLaidOut columns es → FitTogether (paths es) → depth (document es row) ≤ height es
  document_depth row columns done laid (inl h) = absurd h
  document_depth row columns done laid (inr h) = absurd (h.0 refl)
  document_depth row columns (holds path term rest) laid fit =
      let first = later_depth path (string (text_in row term)) 0 (fit_steps path (paths rest) fit) (omega arith) in
      let n : ℕ = max (length path) (height rest) - 1 in
      let whole = begun_depth path (paths rest) (path_data (later_steps path) (string (text_in row term))) (members rest row) n fit (omega (arith, first))
      (λ fields. fields_depth row columns rest n laid.2 fields.1 (omega (arith, first))) in
      omega (arith, first, whole)
  document_depth row columns (group path inner rest) laid fit =
      let first = later_depth path (document inner row) (height inner) (fit_steps path (paths rest) fit) (document_depth row columns inner laid.2 laid.1) in
      let n : ℕ = max (length path + height inner) (height rest) - 1 in
      let whole = begun_depth path (paths rest) (path_data (later_steps path) (document inner row)) (members rest row) n fit (omega (arith, first))
      (λ fields. fields_depth row columns rest n laid.3 fields.1 (omega (arith, first))) in
      omega (arith, first, whole)

pub documents_are_plain : (columns : ℕ) (es : Entries) → IsLayout columns es → (row : Row) → IsPlain (document es row)
documents_are_plain columns es layout row =
    record {
      texts = document_texts es row;
      container = document_contains es row;
      shallow = let h = document_depth row columns es layout.laid_out layout.together in let small = layout.shallow in omega (arith, h, small);
    }
