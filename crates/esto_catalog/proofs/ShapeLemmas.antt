-- The shape in which a fragment is stored is one for its view.
use Rattle.std.proofs.Common.{◌≡◌, ◌<◌, ◌+◌, ◌&&◌, ℕ, List, [], ◌∷◌, ◌++◌, length, map, take, get_or, codes, Bool, false, Option, Some, None, refl, sym, ap}
use Rattle.std.proofs.Common.{subst, ◌∙◌, arith, inl, inr}
use Rattle.std.specs.Prelude.{◌≢◌, AllPairs, Contains, nat_eq}
use Rattle.std.specs.Cmp.Lexicographic.{pointwise}
use Rattle.std.specs.List.{AllZip, starts_with}
use Rattle.std.proofs.lemmas.Bool.Decides.{nat_tests}
use Rattle.std.proofs.lemmas.List.{length-map, map-append}
use Rattle.esto_course.specs.Course.{and_then, judges, gives, refuses, demands}
use Rattle.esto_docmodel.specs.Layouts.{IsLayout}
use Rattle.esto_docmodel.specs.Shapes.{entries_of}
use Rattle.esto_docmodel.specs.declared.pattern.Pattern.{Pattern}
use Rattle.esto_query.specs.Schemas.{arities_of}
use Rattle.esto_query.specs.declared.query.Name.{Name}
use Rattle.esto_query.specs.declared.query.Name.TheVariants.{Given}
use Rattle.esto_query.specs.declared.query.Query.{Query}
use Rattle.esto_read.specs.Layouts.{AreColumns as AreNamed}
use Rattle.esto_read.specs.Naming.{IsCalled, AreHeadNames}
use Rattle.esto_read.specs.Readings.{IsReading}
use Rattle.esto_read.specs.declared.read.Form.TheVariants.{View}
use Rattle.esto_read.specs.declared.read.NamedQuery.{NamedQuery}
use Rattle.esto_docmodel.specs.declared.words.DataModel.{DataModel}
use Rattle.esto_docmodel.specs.declared.words.DataModel.TheVariants.{Table, Documents, Keys}
use Rattle.esto_term.proofs.ChoiceLemmas.{pairs_map}
use Rattle.esto_term.proofs.ListLemmas.{Contains-head, Contains-map_from}
use Rattle.esto_term.proofs.PlaceLemmas.{take-item}
use Rattle.esto_term.specs.declared.term.Term.{Term}
use Rattle.esto_text.specs.Gaps.{IsLetter}
use Rattle.esto_text.specs.Lexemes.{IsNameText}
use Rattle.esto_views.specs.declared.fragments.FragmentDef.{FragmentDef}
use Rattle.esto_mapping.specs.Datasets.{schema_of, words_of}
use Rattle.esto_docmodel.specs.Stores.{begins_plain}
use Rattle.esto_catalog.specs.Fragments.{view_row}
use Rattle.esto_settings.specs.Settings.{setting_at}
use Rattle.esto_catalog.specs.Shapes.{column_of, head_columns, name_at, shape_row, store_columns}
use Rattle.esto_docmodel.specs.Stores.{FitView, IsShapeFor}
use Rattle.esto_docmodel.specs.declared.file.Shape.{Shape}
use Rattle.esto_mapping.specs.declared.dataset.Dataset.{Dataset}
use Rattle.esto_catalog.specs.declared.fault.Place.{Place}
use Rattle.esto_settings.specs.declared.setting.Field.{Field}
use Rattle.esto_settings.specs.declared.setting.Setting.{Setting}
use Rattle.esto_settings.specs.declared.setting.Setting.TheVariants.{Text, Integer, Texts, Other}
use Rattle.esto_ports.specs.declared.mark.TheConstants.{MARK}

-- the columns that are called as a head's variables are
columns_are : (names : List Name) (head : List Term) (texts : List (List ℕ)) → AllZip (IsCalled names) head texts → map (column_of names) head ≡ texts
columns_are names [] [] called = refl
columns_are names [] (text ∷ texts) called = absurd called
columns_are names (term ∷ head) [] called = absurd called
columns_are names (term ∷ head) (text ∷ texts) ((number, is, at), rest) =
    let first : column_of names term ≡ text = ap (column_of names) is ∙ ap name_at at in
    let later : map (column_of names) head ≡ texts = columns_are names head texts rest in
    λ i. first i ∷ later i

letter_apart : (byte : ℕ) → IsLetter byte → nat_eq 239 byte ≡ false
letter_apart byte (inl (low, high)) = grind (arith, nat_tests)
letter_apart byte (inr (low, high)) = grind (arith, nat_tests)

-- a name does not begin with a mark
name_plain : (text : List ℕ) → IsNameText text → starts_with nat_eq text MARK ≡ false
name_plain text name =
    subst (λ it. starts_with nat_eq it MARK ≡ false) (sym name.is)
    (ap (λ (b : Bool). b && pointwise nat_eq (187 ∷ 191 ∷ []) (take 2 name.others)) (letter_apart name.first name.letter))

names_plain : (texts : List (List ℕ)) → ((text : List ℕ) → Contains texts text → IsNameText text) → begins_plain texts
names_plain [] written = tt
names_plain (first ∷ texts) written = name_plain first (written first (Contains-head first texts))

-- columns that are called as the variables of a view's head fit the view
pub head_fit : (view : Query) (texts : List (List ℕ)) → AreHeadNames view.names view.head texts → FitView view (head_columns view)
head_fit view texts names =
    let are : head_columns view ≡ texts = columns_are view.names view.head texts names.called in
    record {
      many = length-map view.head (column_of view.names);
      distinct = subst (AllPairs ◌≢◌) (sym are) names.distinct;
      plain = subst begins_plain (sym are) (names_plain texts names.written);
    }

-- the columns that a fragment has, written or not, fit its view
pub store_fit : (place : Place) (view : Query) (setting : Option Setting) (columns : List (List ℕ)) → FitView view (head_columns view)
    → (store_columns place view setting).goes columns → FitView view columns
unfolding and_then gives refuses demands
store_fit place view None columns fit goes = subst (FitView view) (sym goes) fit
store_fit place view (Some (Texts given)) columns fit (unit, (are, many), is) =
    subst (FitView view) (sym is) (record { many = many; distinct = are.distinct; plain = are.plain })
store_fit place view (Some (Text text)) columns fit goes = absurd goes
store_fit place view (Some (Integer number)) columns fit goes = absurd goes
store_fit place view (Some Other) columns fit goes = absurd goes

-- the names of columns that are told apart
given_one : (one other : List ℕ) → Given one ≡ Given other → one ≡ other
given_one one other same = cc

pub names_are : (texts : List (List ℕ)) → AllPairs ◌≢◌ texts → AreNamed (map Given texts)
names_are texts distinct = record {
  given = λ column inside. let (text, there, is) = Contains-map_from Given texts column inside in (text, sym is);
  distinct = pairs_map Given ◌≢◌ ◌≢◌ (λ one other apart same. apart (given_one one other same)) texts distinct;
}

-- the shape that a fragment has is one for its view
pub shape_fit : (place : Place) (model : DataModel) (view : Query) (entry : List Field) (shape : Shape) → FitView view (head_columns view)
    → (shape_row place model view entry).goes shape → IsShapeFor shape view
unfolding and_then gives demands
shape_fit place Table view entry shape fit (columns, columns_goes, (u, layout, (v, pattern, is))) =
    subst (λ (it : Shape). IsShapeFor it view) (sym is) (store_fit place view (setting_at (codes "columns") entry) columns fit columns_goes)
shape_fit place Documents view entry shape fit (u, none, (layout, layout_goes, (pattern, (text, needed, (read, reads, (v, is_layout, same))), is))) =
    subst (λ (it : Shape). IsShapeFor it view) (sym is)
    (subst (λ (it : Pattern). IsLayout (length view.head) (entries_of it.entries)) (sym same) is_layout)
shape_fit place Keys view entry shape fit (u, none, (v, layout, (w, pattern, is))) = subst (λ (it : Shape). IsShapeFor it view) (sym is) tt

-- a fragment's view is read from a text
pub view_reading : (place : Place) (datasets : List Dataset) (earlier : List FragmentDef) (entry : List Field) (view : NamedQuery)
    → (view_row place datasets earlier entry).goes view
    → (text : List ℕ) × IsReading View (words_of datasets) (arities_of (schema_of datasets)) text view
unfolding and_then judges gives demands
view_reading place datasets earlier entry view (text, needed, (read, reads, (unit, new, is))) =
    (text, subst (IsReading View (words_of datasets) (arities_of (schema_of datasets)) text) (sym is) reads)

-- one column more, and one name more
module _ (names : List Name) (terms : List Term) (index : ℕ) (term : Term) (column : List ℕ) (below : index < length terms)
    (at : term ≡ get_or terms index term) (is : column ≡ column_of names term) where
  columns_more : map (column_of names) (take index terms) ++ column ∷ [] ≡ map (column_of names) (take (index + 1) terms)
  columns_more =
      ap (λ (it : List ℕ). map (column_of names) (take index terms) ++ it ∷ []) is ∙ sym (map-append (column_of names) (take index terms) (term ∷ []))
      ∙ ap (map (column_of names)) (sym (take-item terms index term below at))

  pub column_turn : (columns after : List (List ℕ)) → columns ≡ map (column_of names) (take index terms) → after ≡ columns ++ column ∷ []
      → after ≡ map (column_of names) (take (index + 1) terms)
  column_turn columns after so_far one = one ∙ ap (λ it. it ++ column ∷ []) so_far ∙ columns_more

  pub name_turn : (given after : List Name) → given ≡ map Given (map (column_of names) (take index terms)) → after ≡ given ++ Given column ∷ []
      → after ≡ map Given (map (column_of names) (take (index + 1) terms))
  name_turn given after so_far one =
      one ∙ ap (λ it. it ++ Given column ∷ []) so_far ∙ sym (map-append Given (map (column_of names) (take index terms)) (column ∷ []))
      ∙ ap (map Given) columns_more
