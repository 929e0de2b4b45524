-- The course of `fill` comes to an end, where it is not asked what the text says when it is read.
use Rattle.std.proofs.Common.{◌≡◌, ◌↔◌, ◌⊎◌, inl, inr, ℕ, zero, suc, ◌<◌, Bool, true, false, cond, List, [], ◌∷◌, length, Some, None, Option, slice_get}
use Rattle.std.proofs.Common.{Contains, Err, nat_lt, refl, subst, arith}
use Rattle.std.specs.List.{position_or_len}
use Rattle.std.specs.Prelude.{All}
use Rattle.std.proofs.lemmas.Bool.{ltb-true}
use Rattle.std.proofs.lemmas.List.Elements.{All-cons, All-nil}
use Rattle.std.proofs.lemmas.Option.{same_Some, slice_get_within}
use Rattle.esto_mapping.specs.declared.catalogue.Catalogue.{Catalogue}
use Rattle.esto_docmodel.specs.declared.file.Shape.{Shape}
use Rattle.esto_docmodel.specs.declared.file.Shape.TheVariants.{Table, Documents, Keys}
use Rattle.std.specs.List.{list_any}
use Rattle.esto_course.specs.Course.{Course, and_then, gives}
use Rattle.esto_data.specs.Datasets.{Names, loads}
use Rattle.esto_data.specs.Fill.{IsFirstOf, IsMade, fill_status, gives_file, gives_fragment, gives_named, names_of}
use Rattle.esto_top.specs.Fill.{make_course}
use Rattle.esto_fill.specs.Databases.{database_of}
use Rattle.esto_fill.specs.Filled.{CanHold, Fills, IsFirstUnfit, text_in, with_mark}
use Rattle.esto_fill.specs.Texts.{AreTextsOf, HaveTextsOnly, IsFirstNodeColumn}
use Rattle.esto_fill.specs.declared.filled.FillError.{FillError}
use Rattle.esto_fill.specs.declared.filled.FillError.TheVariants.{NodeInRow, KeyText}
use Rattle.esto_run.specs.Fragments.{IsStoredAt, Stored}
use Rattle.esto_opening.specs.Opening.{opens_catalogue}
use Rattle.esto_status.specs.declared.reply.Reply.{Reply}
use Rattle.esto_status.specs.declared.reply.Reply.TheVariants.{Done}
use Rattle.esto_status.specs.declared.status.Status.{Status}
use Rattle.esto_status.specs.declared.status.Status.TheVariants as status
use Rattle.esto_ports.specs.Files.{Files}
use Rattle.esto_query.specs.Making.{query_of}
use Rattle.esto_semantics.specs.Queries.{IsAnswer}
use Rattle.esto_semantics.specs.declared.fact.Fact.{Fact}
use Rattle.esto_semantics.specs.declared.fact.Value.{Value}
use Rattle.esto_stores.specs.KeyText.{is_part, row_fault}
use Rattle.esto_stores.specs.Rows.{Row}
use Rattle.esto_term.proofs.ListLemmas.{map_at-from, place-from_Contains, thing_at}
use Rattle.esto_term.specs.declared.term.Term.{Term}
use Rattle.esto_views.specs.declared.fragments.FragmentDef.{FragmentDef}
use Rattle.esto_term.proofs.DecisionLemmas.{same_bytes}
use Rattle.esto_input_laws.proofs.HeadLemmas.{first_at}
use Rattle.esto_top.specs.Ends.{Ends, EndsOrLacks}
use Rattle.esto_top.specs.LawsBelow.{BelowLaws, ReadingLaws}
use Rattle.esto_top.proofs.CourseLemmas.{ends_judged, ends_refused, ends_then, gives_ends, judges_accepts, judges_refuses}
use Rattle.esto_top.proofs.DataEndLemmas.{decided_names, loads_end}
use Rattle.esto_top.proofs.OpeningLemmas.{catalogue_opens}
use Rattle.esto_top.proofs.TextLemmas.{database_answers, texts_listed, texts_or_node}

-- ---- rows that a file can hold

place_within : (count size column : ℕ) → cond (nat_lt count size) (Some count) None ≡ Some column → column < size
place_within count size column is = by (nat_lt count size) refl is
  where
    by : (answer : Bool) → nat_lt count size ≡ answer → cond answer (Some count) None ≡ Some column → column < size
    by true less found = subst (λ (it : ℕ). it < size) (same_Some count column found) (ltb-true count size less)
    by false more found = absurd (cc)

-- a cell that a key file can't hold is there
cell_at : (row : Row) (column : ℕ) → row_fault row ≡ Some column → (cell : List ℕ) × (slice_get row column ≡ Some cell)
cell_at row column fault = thing_at row column (place_within (position_or_len (λ cell. list_any is_part cell) row) (length row) column fault)

-- a key file can hold the rows, or there is a first cell that it can't hold
fit_or_not : (rows : List Row) → All (λ row. row_fault row ≡ None) rows ⊎ ((cell : List ℕ) × IsFirstUnfit rows cell)
fit_or_not [] = inl (All-nil _)
fit_or_not (row ∷ rows) = by (row_fault row) refl (fit_or_not rows)
  where
    by : (found : Option ℕ) → row_fault row ≡ found → All (λ it. row_fault it ≡ None) rows ⊎ ((cell : List ℕ) × IsFirstUnfit rows cell)
        → All (λ it. row_fault it ≡ None) (row ∷ rows) ⊎ ((cell : List ℕ) × IsFirstUnfit (row ∷ rows) cell)
    by (Some column) fault later =
        let (cell, at) = cell_at row column fault in
        inr (
          cell,
          record {
            place = 0;
            row = row;
            there = refl;
            column = column;
            fault = fault;
            is = at;
            before = λ earlier other less. absurd (omega (arith, less));
          },
        )
    by None free (inl all) = inl (All-cons (λ it. row_fault it ≡ None) row rows free all)
    by None free (inr (cell, first)) = inr (
      cell,
      record {
        place = suc first.place;
        row = first.row;
        there = first.there;
        column = first.column;
        fault = first.fault;
        is = first.is;
        before = before;
      },
    )
      where
        before : (earlier : ℕ) (other : Row) → earlier < suc first.place → slice_get (row ∷ rows) earlier ≡ Some other → row_fault other ≡ None
        before zero other less there = subst (λ (it : Row). row_fault it ≡ None) (same_Some row other there) free
        before (suc earlier) other less there = first.before earlier other (omega (arith, less)) there

holds_or_not : (shape : Shape) (rows : List Row) → CanHold shape rows ⊎ ((shape ≡ Keys) × ((cell : List ℕ) × IsFirstUnfit rows cell))
holds_or_not (Table columns) rows = inl tt
holds_or_not (Documents layout pattern) rows = inl tt
holds_or_not Keys rows = elim (fit_or_not rows) [ inl fit ↦ inl fit | inr found ↦ inr (refl, found) ]

-- ---- the course

module _ (laws : BelowLaws) where
  -- the file has a text, or a cause for which it has none
  file_ends : {lack : Type 0} (stored : Stored) (facts : List (Fact Term)) → Ends lack (gives_file IsMade stored facts)
  file_ends {lack} stored facts = by (texts_or_node Rows listed)
    where
      Rows : List Value → Type 0
      Rows = IsAnswer (query_of stored.definition.view) (database_of facts)

      Refuses : Status → Type 0
      Refuses refusal = (cause : FillError) × Fills stored.store.shape Rows (Err cause) × (refusal ≡ fill_status cause)

      listed : (rows : List (List Value)) × ((values : List Value) → Contains rows values ↔ Rows values)
      listed = database_answers (query_of stored.definition.view) (laws.keeps.queries stored.definition.view).query (database_of facts)

      held : (rows : List Row) → AreTextsOf Rows rows → Ends lack (gives_file IsMade stored facts)
      held rows are = elim (holds_or_not stored.store.shape rows) [
        | inl can ↦
            judges_accepts (IsMade stored facts) Refuses (with_mark (text_in stored.store.shape rows)) (rows, are, can, refl)
        | inr (keys, (cell, first)) ↦
            judges_refuses (IsMade stored facts) Refuses (status.KeyText cell) (record { cause = tt }) (KeyText cell, (keys, (rows, are, first)), refl)
      ]

      by : HaveTextsOnly Rows ⊎ ((column : ℕ) × IsFirstNodeColumn Rows column) → Ends lack (gives_file IsMade stored facts)
      by (inl only) = let (rows, are) = texts_listed Rows listed only in held rows are
      by (inr (column, is)) =
          judges_refuses (IsMade stored facts) Refuses (status.NodeInRow column) (record { cause = tt }) (NodeInRow column, is, refl)

  module _ (files : Files) (catalogue : Catalogue) where
    fragment_ends : (number : ℕ) → number < length catalogue.fragments → EndsOrLacks (gives_fragment IsMade (Some files) catalogue number)
    fragment_ends number below =
        ends_judged (IsStoredAt catalogue number) (λ _. ⊥) loaded (stored_at number below) (λ stored at.
        ends_then (loads (Some files) catalogue.datasets (Names (query_of stored.definition.view).body)) (made stored)
        (loads_end files catalogue.datasets (Names (query_of stored.definition.view).body) (decided_names (query_of stored.definition.view).body)) (λ facts _.
        ends_then (gives_file IsMade stored facts) (λ text. gives (Done text)) (file_ends stored facts) (λ text _. gives_ends (Done text))))
      where
        made : Stored → List (Fact Term) → Course Status Reply
        made stored facts = and_then (gives_file IsMade stored facts) (λ text. gives (Done text))

        loaded : Stored → Course Status Reply
        loaded stored = and_then (loads (Some files) catalogue.datasets (Names (query_of stored.definition.view).body)) (made stored)

        stored_at : (number : ℕ) → number < length catalogue.fragments → (stored : Stored) × IsStoredAt catalogue number stored
        stored_at number below =
            let (definition, at) = thing_at catalogue.fragments number below in
            let same = (laws.keeps.catalogues catalogue).stored in
            let (store, there) = thing_at catalogue.stores number (omega (arith, below, same)) in
            (record { definition = definition; store = store }, record { definition = at; store = there })

    named_ends : (name : List ℕ) → EndsOrLacks (gives_named IsMade (Some files) name catalogue)
    named_ends name = elim (first_at (λ place found. found ≡ name) (λ place found. same_bytes found name) (names_of catalogue.fragments)) [
      | inr none ↦ ends_refused (IsFirstOf (names_of catalogue.fragments) name) Refuses (gives_fragment IsMade (Some files) catalogue)
          (status.NoSuchFragment name) (record { cause = tt })
          ((λ inside. let (place, at) = place-from_Contains (names_of catalogue.fragments) name inside in none place name at refl), refl)
      | inl (number, found, at, is, earlier) ↦
          ends_judged (IsFirstOf (names_of catalogue.fragments) name) Refuses (gives_fragment IsMade (Some files) catalogue) (
            number,
            record {
              there = subst (λ (it : List ℕ). slice_get (names_of catalogue.fragments) number ≡ Some it) is at;
              first = λ before less there. earlier before name less there refl;
            },
          )
          (λ its first. fragment_ends its (within its first.there))
    ]
      where
        Refuses : Status → Type 0
        Refuses refusal = ¬ (Contains (names_of catalogue.fragments) name) × (refusal ≡ status.NoSuchFragment name)

        within : (number : ℕ) → slice_get (names_of catalogue.fragments) number ≡ Some name → number < length catalogue.fragments
        within number there =
            let (definition, at, is) = map_at-from (λ (it : FragmentDef). it.name) catalogue.fragments number name there in
            slice_get_within catalogue.fragments number definition at

  pub make_ends : ReadingLaws → (files : Files) (catalogue_name name : List ℕ) → EndsOrLacks (make_course (Some files) catalogue_name name)
  make_ends readings files catalogue_name name =
      ends_then (opens_catalogue (Some files) catalogue_name) (gives_named IsMade (Some files) name) (catalogue_opens readings files catalogue_name)
      (λ catalogue _. named_ends files catalogue name)
