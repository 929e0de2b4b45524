-- What is filled and audited over catalogues that say the same.
use Rattle.std.proofs.Common.{◌≡◌, ◌↔◌, ℕ, List, map, ◌++◌, length, slice_get, Option, Some, None, Result, Ok, Err, refl, sym, ap, subst, ◌∙◌, inl, inr}
use Rattle.std.specs.Prelude.{codes}
use Rattle.std.specs.Fmt.{decimal}
use Rattle.std.proofs.lemmas.Bool.{cases_order}
use Rattle.std.proofs.lemmas.List.{length-map}
use Rattle.esto_mapping.specs.Catalogues.{AreSame, StoredAs, as_table, as_documents, as_keys, shape_as, stored_as}
use Rattle.esto_mapping.specs.declared.catalogue.Catalogue.{Catalogue}
use Rattle.esto_docmodel.specs.declared.file.Shape.{Shape}
use Rattle.esto_docmodel.specs.declared.file.Shape.TheVariants.{Table, Documents, Keys}
use Rattle.esto_constraint.specs.Constraints.{rules_of}
use Rattle.esto_constraint.specs.EncodingRules.{written}
use Rattle.esto_docs.specs.Documents.{document, documents_text}
use Rattle.esto_fill.specs.Databases.{database_of}
use Rattle.esto_fill.specs.Differences.{Audits, AreOne, IsFirstApart, IsInOne, IsOfView, at}
use Rattle.esto_fill.specs.Filled.{CanHold, Fills, text_in, with_mark}
use Rattle.esto_ports.specs.declared.difference.Difference.{Difference}
use Rattle.esto_ports.specs.declared.difference.Difference.TheVariants.{Rule as Broken, Missing, Extra}
use Rattle.esto_fill.specs.declared.filled.FillError.{FillError}
use Rattle.esto_fill.specs.declared.filled.FillError.TheVariants as filled
use Rattle.esto_query.specs.Making.{query_of}
use Rattle.esto_query.specs.declared.query.Name.{Name}
use Rattle.esto_semantics.specs.Queries.{ConjunctiveQuery}
use Rattle.esto_semantics.specs.Rules.{Rule}
use Rattle.esto_semantics.specs.declared.fact.Fact.{Fact}
use Rattle.esto_semantics.specs.declared.fact.Value.{Value}
use Rattle.esto_stores.specs.KeyText.{keys_text}
use Rattle.esto_stores.specs.Rows.{Row}
use Rattle.esto_stores.specs.TableText.{table_text}
use Rattle.esto_term.proofs.ListLemmas.{map_at, map_at-from}
use Rattle.esto_term.specs.declared.term.Term.{Term}
use Rattle.esto_views.specs.declared.fragments.FragmentDef.{FragmentDef}
use Rattle.esto_views.specs.Fragments.{views_of}
use Rattle.esto_run.specs.Fragments.{Stored, IsStoredAt}
use Rattle.esto_run.proofs.StoreAlikeLemmas.{same_at}
use Rattle.esto_data.specs.Audit.{audit_text}
use Rattle.esto_data.specs.Fill.{IsFirstOf, names_of}

-- ---- shapes that are one but for how their patterns are written

abbrev text_as : StoredAs → List Row → List ℕ
text_as (as_table columns file) rows = table_text columns rows
text_as (as_documents layout entries file) rows = documents_text layout (map (document entries) rows)
text_as (as_keys file) rows = keys_text rows

abbrev CanHoldAs : StoredAs → List Row → Type 0
CanHoldAs (as_table columns file) rows = Unit {0}
CanHoldAs (as_documents layout entries file) rows = Unit {0}
CanHoldAs (as_keys file) rows = CanHold Keys rows

text_told : (shape : Shape) (file : List ℕ) (rows : List Row) → text_as (shape_as shape file) rows ≡ text_in shape rows
text_told (Table columns) file rows = refl
text_told (Documents layout pattern) file rows = refl
text_told Keys file rows = refl

held_as : (shape : Shape) (file : List ℕ) (rows : List Row) → CanHold shape rows → CanHoldAs (shape_as shape file) rows
held_as (Table columns) file rows can = can
held_as (Documents layout pattern) file rows can = can
held_as Keys file rows can = can

held_told : (shape : Shape) (file : List ℕ) (rows : List Row) → CanHoldAs (shape_as shape file) rows → CanHold shape rows
held_told (Table columns) file rows can = can
held_told (Documents layout pattern) file rows can = can
held_told Keys file rows can = can

keys_told : (shape : Shape) (file other_file : List ℕ) → shape_as Keys other_file ≡ shape_as shape file → shape ≡ Keys
keys_told (Table columns) file other_file same = cc
keys_told (Documents layout pattern) file other_file same = cc
keys_told Keys file other_file same = refl

-- a file is filled in the same way in one and the other shape
pub fills_moved : (shape other : Shape) (file other_file : List ℕ) → shape_as other other_file ≡ shape_as shape file → (Rows : List Value → Type 0)
    (result : Result (List ℕ) FillError) → Fills other Rows result → Fills shape Rows result
fills_moved shape other file other_file same Rows (Ok text) (rows, are, can, is) = (
  rows,
  are,
  held_told shape file rows (subst (λ it. CanHoldAs it rows) same (held_as other other_file rows can)),
  is ∙ ap with_mark (sym (text_told other other_file rows) ∙ ap (λ it. text_as it rows) same ∙ text_told shape file rows),
)
fills_moved shape other file other_file same Rows (Err (filled.NodeInRow column)) fills = fills
fills_moved shape other file other_file same Rows (Err (filled.KeyText cell)) (is_keys, more) =
    (keys_told shape file other_file (ap (λ it. shape_as it other_file) (sym is_keys) ∙ same), more)
fills_moved shape other file other_file same Rows (Err filled.OutOfMemory) fills = fills

-- ---- an audit rests on the rows alone

module _ (First Second First_too Second_too : ℕ → Row → Type 0) (first_same : (number : ℕ) (row : Row) → First number row ↔ First_too number row)
    (second_same : (number : ℕ) (row : Row) → Second number row ↔ Second_too number row) where
  one-moved : (number : ℕ) → AreOne (First number) (Second number) → AreOne (First_too number) (Second_too number)
  one-moved number one row = (
    (λ inside. (second_same number row).0 ((one row).0 ((first_same number row).1 inside))),
    (λ inside. (first_same number row).0 ((one row).1 ((second_same number row).1 inside))),
  )

  in_one-back : (number : ℕ) (row : Row) → IsInOne (First_too number) (Second_too number) row → IsInOne (First number) (Second number) row
  in_one-back number row one = elim one [
    | inl here ↦ inl ((first_same number row).1 here.0, (λ there. here.1 ((second_same number row).0 there)))
    | inr here ↦ inr ((second_same number row).1 here.0, (λ there. here.1 ((first_same number row).0 there)))
  ]

  apart-moved : (names : List (List ℕ)) (name : List ℕ) (row : Row) → IsFirstApart names First Second name row
      → IsFirstApart names First_too Second_too name row
  apart-moved names name row first = record {
    number = first.number;
    named = first.named;
    apart = record {
      inside = (first_same first.number row).0 first.apart.inside;
      outside = λ there. first.apart.outside ((second_same first.number row).1 there);
      least = λ other one. first.apart.least other (in_one-back first.number other one);
    };
    before = λ earlier less. one-moved earlier (first.before earlier less);
  }

module _ (rules : List Rule) (names : List (List Name)) (fragments : List (List ℕ)) (views : List ConjunctiveQuery) (facts : List (Fact Term))
    (Holds Holds_too : Fact (List ℕ) → Type 0) (same : (fact : Fact (List ℕ)) → Holds fact ↔ Holds_too fact) where
  own_view : (number : ℕ) (row : Row) → IsOfView views (database_of facts) number row ↔ IsOfView views (database_of facts) number row
  own_view number row = ((λ inside. inside), (λ inside. inside))

  own_row : (number : ℕ) (row : Row) → Holds (at number row) ↔ Holds_too (at number row)
  own_row number row = same (at number row)

  pub audits-moved : (outcome : Option Difference) → Audits rules names fragments views facts Holds outcome
      → Audits rules names fragments views facts Holds_too outcome
  audits-moved None agree = record {
    meets = agree.meets;
    rows = λ fact. (
      (λ is_row. let found = (agree.rows fact).0 is_row in (found.0, (same (at fact.relation found.0)).0 found.1, found.2)),
      (λ found. (agree.rows fact).1 (found.0, (same (at fact.relation found.0)).1 found.1, found.2)),
    );
  }
  audits-moved (Some (Broken number cells)) broken = broken
  audits-moved (Some (Missing name row)) (meets, apart) = (meets, apart-moved _ _ _ _ own_view own_row fragments name row apart)
  audits-moved (Some (Extra name row)) (meets, apart) = (meets, apart-moved _ _ _ _ own_row own_view fragments name row apart)

-- ---- the rules, queries and fragments of catalogues that say the same

module _ (catalogue other : Catalogue) (alike : AreSame catalogue other) (number : ℕ) (stored other_stored : Stored) (here : IsStoredAt catalogue number stored)
    (there : IsStoredAt other number other_stored) where
  pub same_view : query_of stored.definition.view ≡ query_of other_stored.definition.view
  same_view = same_at (λ (it : FragmentDef). query_of it.view) catalogue.fragments other.fragments number stored.definition other_stored.definition alike.views
      here.definition there.definition

module _ (catalogue other : Catalogue) (alike : AreSame catalogue other) where
  pub alike_back : AreSame other catalogue
  alike_back = record {
    schema = sym alike.schema;
    words = sym alike.words;
    datasets = sym alike.datasets;
    names = sym alike.names;
    views = sym alike.views;
    patterns = sym alike.patterns;
    weights = sym alike.weights;
    stores = sym alike.stores;
    rules = sym alike.rules;
    rule_names = sym alike.rule_names;
    given = sym alike.given;
    ranks = sym alike.ranks;
    core = sym alike.core;
  }

  -- a fragment that is stored in the one is stored in the other
  pub other_stored : (number : ℕ) (stored : Stored) → IsStoredAt catalogue number stored → (its : Stored) × IsStoredAt other number its
  other_stored number stored here =
      let definition = map_at-from (λ (it : FragmentDef). it.name) other.fragments number stored.definition.name
      (ap (λ it. slice_get it number) (sym alike.names)
      ∙ map_at (λ (it : FragmentDef). it.name) catalogue.fragments number stored.definition here.definition) in
      let store = map_at-from stored_as other.stores number (stored_as stored.store)
      (ap (λ it. slice_get it number) (sym alike.stores) ∙ map_at stored_as catalogue.stores number stored.store here.store) in
      (record { definition = definition.0; store = store.0 }, record { definition = definition.1; store = store.1 })

  pub fragments_long : length catalogue.fragments ≡ length other.fragments
  fragments_long = sym (length-map catalogue.fragments (λ fragment. fragment.name)) ∙ ap length alike.names
      ∙ length-map other.fragments (λ fragment. fragment.name)

  pub texts_one : audit_text catalogue ≡ audit_text other
  texts_one = λ i. codes "constraints " ++ (decimal (alike.given i) ++ (codes "\nfragments " ++ (decimal (fragments_long i) ++ codes "\nagree\n")))

  -- an audit over the other catalogue, but for where its rows are stored, is one over this
  pub audits_over : (facts : List (Fact Term)) (Holds : Fact (List ℕ) → Type 0) (outcome : Option Difference)
      → Audits (rules_of other.rules) (map written other.rules) (names_of other.fragments) (views_of other.fragments) facts Holds outcome
      → Audits (rules_of catalogue.rules) (map written catalogue.rules) (names_of catalogue.fragments) (views_of catalogue.fragments) facts Holds outcome
  audits_over facts Holds outcome audits =
      subst (λ it. Audits it (map written catalogue.rules) (names_of catalogue.fragments) (views_of catalogue.fragments) facts Holds outcome)
      (sym alike.rules)
      (subst (λ it. Audits (rules_of other.rules) it (names_of catalogue.fragments) (views_of catalogue.fragments) facts Holds outcome)
      (sym alike.rule_names)
      (subst (λ it. Audits (rules_of other.rules) (map written other.rules) it (views_of catalogue.fragments) facts Holds outcome) (sym alike.names)
      (subst (λ it. Audits (rules_of other.rules) (map written other.rules) (names_of other.fragments) it facts Holds outcome) (sym alike.views) audits)))

-- ---- names

-- the first place of a name is one
pub first_one : (names : List (List ℕ)) (name : List ℕ) (number other_number : ℕ) → IsFirstOf names name number → IsFirstOf names name other_number
    → number ≡ other_number
first_one names name number other_number here there =
    elim (cases_order number other_number) [
      | inl equal ↦ equal
      | inr apart ↦ elim apart [
        | inl less ↦ absurd (there.first number less here.there)
        | inr more ↦ absurd (here.first other_number more there.there)
      ]
    ]
