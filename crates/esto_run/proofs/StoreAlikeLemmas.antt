-- Stores and fragments of catalogues that say the same.
use Rattle.std.proofs.Common.{◌≡◌, ℕ, List, map, length, slice_get, Option, Some, Contains, refl, sym, ap, subst, ◌∙◌}
use Rattle.std.proofs.lemmas.Option.{same_Some}
use Rattle.esto_mapping.specs.Catalogues.{AreSame, StoredAs, as_table, as_documents, as_keys, shape_as, stored_as}
use Rattle.esto_mapping.specs.declared.catalogue.Catalogue.{Catalogue}
use Rattle.esto_docmodel.specs.declared.file.Shape.{Shape}
use Rattle.esto_docmodel.specs.declared.file.Shape.TheVariants.{Table, Documents, Keys}
use Rattle.esto_docmodel.specs.declared.file.Store.{Store}
use Rattle.esto_docmodel.specs.Layouts.{IsLayout}
use Rattle.esto_docs.specs.Files.{file_trees, trees_fault}
use Rattle.esto_docs.specs.Rows.{IsRowOf}
use Rattle.esto_ports.specs.declared.file_fault.FileFault.{FileFault}
use Rattle.esto_query.specs.Making.{query_of}
use Rattle.esto_docs.specs.Stores.{IsRowIn, IsFileRow, first_fault_in}
use Rattle.esto_semantics.specs.Queries.{ConjunctiveQuery}
use Rattle.esto_semantics.specs.declared.fact.Fact.{Fact}
use Rattle.esto_stores.specs.Keys.{key_rows, key_fault}
use Rattle.esto_stores.specs.Rows.{Row}
use Rattle.esto_stores.specs.Table.{table_rows, table_fault}
use Rattle.esto_term.proofs.ListLemmas.{map_at, map_at-from}
use Rattle.esto_views.specs.declared.fragments.FragmentDef.{FragmentDef}
use Rattle.esto_run.specs.FragmentsAlike.{StoresHaveOneContent, StoresHaveOneFault, StoresHaveOneFile}
use Rattle.esto_run.specs.Fragments.{Stored, IsStoredAt, content_fault}

-- ---- stores that are one but for how their patterns are written

abbrev file_as : StoredAs → List ℕ
file_as (as_table columns file) = file
file_as (as_documents layout entries file) = file
file_as (as_keys file) = file

abbrev fault_as : StoredAs → ℕ → List ℕ → Option FileFault
fault_as (as_table columns file) width bytes = table_fault columns bytes
fault_as (as_documents layout entries file) width bytes = trees_fault layout bytes
fault_as (as_keys file) width bytes = key_fault width bytes

abbrev HasRowAs : StoredAs → List ℕ → Row → Type 0
HasRowAs (as_table columns file) bytes row = Contains (table_rows columns bytes) row
HasRowAs (as_documents layout entries file) bytes row = IsLayout (length row) entries × IsRowOf (length row) entries (file_trees layout bytes) row
HasRowAs (as_keys file) bytes row = Contains (key_rows bytes) row

file_told : (shape : Shape) (file : List ℕ) → file_as (shape_as shape file) ≡ file
file_told (Table columns) file = refl
file_told (Documents layout pattern) file = refl
file_told Keys file = refl

fault_told : (shape : Shape) (file : List ℕ) (width : ℕ) (bytes : List ℕ) → fault_as (shape_as shape file) width bytes ≡ first_fault_in shape width bytes
fault_told (Table columns) file width bytes = refl
fault_told (Documents layout pattern) file width bytes = refl
fault_told Keys file width bytes = refl

row_as : (shape : Shape) (file bytes : List ℕ) (row : Row) → IsRowIn shape bytes row → HasRowAs (shape_as shape file) bytes row
row_as (Table columns) file bytes row is = is
row_as (Documents layout pattern) file bytes row is = is
row_as Keys file bytes row is = is

row_told : (shape : Shape) (file bytes : List ℕ) (row : Row) → HasRowAs (shape_as shape file) bytes row → IsRowIn shape bytes row
row_told (Table columns) file bytes row is = is
row_told (Documents layout pattern) file bytes row is = is
row_told Keys file bytes row is = is

one_file : (store other : Store) → stored_as store ≡ stored_as other → store.file ≡ other.file
one_file store other same = sym (file_told store.shape store.file) ∙ ap file_as same ∙ file_told other.shape other.file

one_fault : (store other : Store) → stored_as store ≡ stored_as other → (width : ℕ) (bytes : List ℕ)
    → first_fault_in store.shape width bytes ≡ first_fault_in other.shape width bytes
one_fault store other same width bytes =
    sym (fault_told store.shape store.file width bytes) ∙ ap (λ it. fault_as it width bytes) same ∙ fault_told other.shape other.file width bytes

one_row : (store other : Store) → stored_as store ≡ stored_as other → (bytes : List ℕ) (row : Row)
    → IsRowIn store.shape bytes row → IsRowIn other.shape bytes row
one_row store other same bytes row is =
    row_told other.shape other.file bytes row (subst (λ it. HasRowAs it bytes row) same (row_as store.shape store.file bytes row is))

-- a row of a file in one of the stores is one in the other
row_moved : (stores others : List Store) → map stored_as stores ≡ map stored_as others → (contents : ℕ → List ℕ) (fact : Fact (List ℕ))
    → IsFileRow others contents fact → IsFileRow stores contents fact
row_moved stores others same contents fact (other, there, is) =
    let found = map_at-from stored_as stores fact.relation (stored_as other)
    (ap (λ it. slice_get it fact.relation) same ∙ map_at stored_as others fact.relation other there) in (
      found.0,
      found.1,
      one_row other found.0 (sym found.2) (contents fact.relation) fact.terms is,
    )

-- ---- fragments

-- what is the same of all things is the same of those at a place
pub same_at : {X Y : Type 0} (m : X → Y) (things others : List X) (place : ℕ) (thing other : X) → map m things ≡ map m others
    → slice_get things place ≡ Some thing → slice_get others place ≡ Some other → m thing ≡ m other
same_at m things others place thing other same is is_other =
    same_Some (m thing) (m other)
    (sym (map_at m things place thing is) ∙ ap (λ it. slice_get it place) same ∙ map_at m others place other is_other)

module _ (catalogue other : Catalogue) (alike : AreSame catalogue other) (number : ℕ) (stored other_stored : Stored) (at : IsStoredAt catalogue number stored)
    (other_at : IsStoredAt other number other_stored) where
  pub same_stored : stored_as stored.store ≡ stored_as other_stored.store
  same_stored = same_at stored_as catalogue.stores other.stores number stored.store other_stored.store alike.stores at.store other_at.store

  pub same_file : stored.store.file ≡ other_stored.store.file
  same_file = one_file stored.store other_stored.store same_stored

  pub same_named : stored.definition.name ≡ other_stored.definition.name
  same_named = same_at (λ (it : FragmentDef). it.name) catalogue.fragments other.fragments number stored.definition other_stored.definition alike.names
      at.definition other_at.definition

  same_width : length stored.definition.view.head ≡ length other_stored.definition.view.head
  same_width = ap (λ (it : ConjunctiveQuery). length it.head)
      (same_at (λ (it : FragmentDef). query_of it.view) catalogue.fragments other.fragments number stored.definition other_stored.definition alike.views
      at.definition other_at.definition)

  pub same_fault : (bytes : List ℕ) → content_fault stored bytes ≡ content_fault other_stored bytes
  same_fault bytes =
      one_fault stored.store other_stored.store same_stored (length stored.definition.view.head) bytes
      ∙ ap (λ it. first_fault_in other_stored.store.shape it bytes) same_width

pub one_content : StoresHaveOneContent
one_content stores others contents fact same = (row_moved others stores (sym same) contents fact, row_moved stores others same contents fact)

pub one_fault_in : StoresHaveOneFault
one_fault_in store other width bytes same = one_fault store other same width bytes

pub one_file_named : StoresHaveOneFile
one_file_named = one_file
