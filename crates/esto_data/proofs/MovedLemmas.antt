-- What is exact over a catalogue is exact over one that says the same.
use Rattle.std.proofs.Common.{◌≡◌, ◌↔◌, ℕ, List, [], ◌∷◌, map, length, Contains, Option, Some, None, Result, Ok, Err, refl, sym, ap, subst, ◌∙◌, arith}
use Rattle.std.proofs.lemmas.Option.{same_Some}
use Rattle.esto_mapping.specs.Catalogues.{AreSame, stored_as}
use Rattle.esto_mapping.specs.declared.catalogue.Catalogue.{Catalogue}
use Rattle.esto_docmodel.specs.declared.file.Store.{Store}
use Rattle.esto_mapping.specs.declared.dataset.Dataset.{Dataset}
use Rattle.esto_constraint.specs.Constraints.{rules_of}
use Rattle.esto_constraint.specs.EncodingRules.{written}
use Rattle.esto_fill.specs.Databases.{database_of}
use Rattle.esto_fill.specs.Filled.{Fills, IsOpenedAs}
use Rattle.esto_ports.specs.Marks.{without_mark}
use Rattle.esto_fill.specs.Texts.{AreTextViews, IsFirstNodeView}
use Rattle.esto_ports.specs.declared.difference.Difference.{Difference}
use Rattle.esto_fill.specs.declared.filled.FillError.{FillError}
use Rattle.esto_fill.specs.declared.filled.FillError.TheVariants as filled
use Rattle.esto_ports.specs.Files.{Files}
use Rattle.esto_query.specs.Making.{query_of}
use Rattle.esto_query.specs.declared.query.Query.{Query}
use Rattle.esto_docs.specs.Stores.{IsFileRow, IsRowIn, first_fault_in}
use Rattle.esto_semantics.specs.Queries.{ConjunctiveQuery, IsAnswer}
use Rattle.esto_semantics.specs.Unions.{IsUnionAnswer}
use Rattle.esto_semantics.specs.declared.fact.Fact.{Fact}
use Rattle.esto_semantics.specs.declared.fact.Value.TheVariants.{Text}
use Rattle.esto_stores.specs.Rows.{Row}
use Rattle.esto_term.specs.declared.term.Term.{Term}
use Rattle.esto_views.specs.Fragments.{views_of}
use Rattle.esto_query.specs.Same.{AreSameQueries}
use Rattle.esto_run.specs.FragmentsAlike.{StoresHaveOneContent, StoresHaveOneFault, StoresHaveOneFile}
use Rattle.esto_status.specs.Fetch.{HasWithin}
use Rattle.esto_run.specs.Fragments.{Stored, IsStoredAt, content_fault}
use Rattle.esto_run.specs.Texts.{union_rows_text}
use Rattle.esto_status.specs.declared.limits.TheConstants.{DATA_LIMIT}
use Rattle.esto_status.specs.declared.status.Status.{Status}
use Rattle.esto_status.specs.declared.status.Status.TheVariants as status
use Rattle.esto_run.proofs.StoreAlikeLemmas.{same_stored}
use Rattle.esto_data.specs.Answer.{IsUnionAnswerOfFacts}
use Rattle.esto_data.specs.Audit.{AuditsFiles}
use Rattle.esto_data.specs.Datasets.{IsAny, Names, OneNames}
use Rattle.esto_data.specs.Exact.{AreReadableFragments, FillsExactly, HoldFacts, IsExactAudit, IsExactFill, IsExactUnionAnswer}
use Rattle.esto_data.specs.Exact.FillsExactly.{prints, tells_key, tells_node}
use Rattle.esto_data.specs.Fill.{IsFirstOf, IsRowOfView, names_of}
use Rattle.esto_data.proofs.AlikeLemmas.{alike_back, audits-moved, audits_over, fills_moved, fragments_long, other_stored, texts_one, same_view}
use Rattle.esto_data.proofs.UnionLemmas.{gives_moved, same_queries, same_union, same_union_text}

-- ---- `answer`

module _ (files : Files) (catalogue other : Catalogue) (alike : AreSame catalogue other) where
  -- facts that are held for a body over the one catalogue are held over the other
  pub holds_moved : (Needs : Dataset → Type 0) (facts : List (Fact Term)) → HoldFacts files catalogue.datasets Needs facts
      → HoldFacts files other.datasets Needs facts
  holds_moved Needs facts holds = subst (λ (it : List Dataset). HoldFacts files it Needs facts) alike.datasets holds

  named_moved : (one two : ConjunctiveQuery) → one ≡ two → (facts : List (Fact Term)) → HoldFacts files catalogue.datasets (Names one.body) facts
      → HoldFacts files other.datasets (Names two.body) facts
  named_moved one two same facts holds =
      subst (λ (it : ConjunctiveQuery). HoldFacts files other.datasets (Names it.body) facts) same (holds_moved (Names one.body) facts holds)

  pub answer_moved : (queries others : List Query) → AreSameQueries queries others → (said : Status) (text : List ℕ)
      → IsExactUnionAnswer files other others said text → IsExactUnionAnswer files catalogue queries said text
  answer_moved queries others same said text exact facts holds =
      let is : map query_of queries ≡ map query_of others = same_queries queries others same in
      gives_moved (IsUnionAnswerOfFacts others facts) (IsUnionAnswerOfFacts queries facts)
      (same_union (map query_of others) (map query_of queries) (sym is) (λ those values. IsUnionAnswer those (database_of facts) values))
      (union_rows_text others) (union_rows_text queries) (λ rows. sym (same_union_text queries others same rows)) said text
      (exact facts (subst (λ (it : List ConjunctiveQuery). HoldFacts files other.datasets (OneNames it) facts) is
      (holds_moved (OneNames (map query_of queries)) facts holds)))

  -- ---- `fill`

  module _ (one_fault : StoresHaveOneFault) (one_content : StoresHaveOneContent) where
    module _ (number : ℕ) (stored its : Stored) (here : IsStoredAt catalogue number stored) (there : IsStoredAt other number its)
        (facts : List (Fact Term)) where
      stores_same : stored_as stored.store ≡ stored_as its.store
      stores_same = same_stored catalogue other alike number stored its here there

      views_same : query_of stored.definition.view ≡ query_of its.definition.view
      views_same = same_view catalogue other alike number stored its here there

      width_same : length stored.definition.view.head ≡ length its.definition.view.head
      width_same = ap (λ (it : ConjunctiveQuery). length it.head) views_same

      result_moved : (result : Result (List ℕ) FillError) → Fills its.store.shape (IsRowOfView its.definition facts) result
          → Fills stored.store.shape (IsRowOfView stored.definition facts) result
      result_moved result fills =
          subst (λ (it : ConjunctiveQuery). Fills stored.store.shape (IsAnswer it (database_of facts)) result) (sym views_same)
          (fills_moved stored.store.shape its.store.shape stored.store.file its.store.file (sym stores_same) (IsRowOfView its.definition facts) result fills)

      row_same : (bytes : List ℕ) (row : Row) → IsRowIn stored.store.shape bytes row ↔ IsRowIn its.store.shape bytes row
      row_same bytes row =
          let same : map stored_as (stored.store ∷ []) ≡ map stored_as (its.store ∷ []) = ap (λ it. it ∷ []) stores_same in
          let moved = one_content (stored.store ∷ []) (its.store ∷ []) (λ _. bytes) (record { relation = 0; terms = row }) same in (
            (λ is. let found = moved.0 (stored.store, refl, is) in
                subst (λ (it : Store). IsRowIn it.shape bytes row) (same_Some found.0 its.store (sym found.1)) found.2),
            (λ is. let found = moved.1 (its.store, refl, is) in
                subst (λ (it : Store). IsRowIn it.shape bytes row) (same_Some found.0 stored.store (sym found.1)) found.2),
          )

      opened_moved : (bytes : List ℕ) → IsOpenedAs its.store.shape (length its.definition.view.head) (IsRowOfView its.definition facts) bytes
          → IsOpenedAs stored.store.shape (length stored.definition.view.head) (IsRowOfView stored.definition facts) bytes
      opened_moved bytes opened = record {
        no_fault = one_fault stored.store its.store (length stored.definition.view.head) bytes stores_same
            ∙ ap (λ (it : ℕ). first_fault_in its.store.shape it bytes) width_same ∙ opened.no_fault;
        rows = λ row. (
          (λ is. subst (λ (it : ConjunctiveQuery). IsAnswer it (database_of facts) (map Text row)) (sym views_same)
              ((opened.rows row).0 ((row_same bytes row).0 is))),
          (λ is. (row_same bytes row).1
              ((opened.rows row).1 (subst (λ (it : ConjunctiveQuery). IsAnswer it (database_of facts) (map Text row)) views_same is))),
        );
      }

      filled_moved : (said : Status) (text : List ℕ) → FillsExactly its facts said text → FillsExactly stored facts said text
      filled_moved said text (prints done is) =
          prints done (record { filled = result_moved (Ok text) is.filled; opened = opened_moved (without_mark text) is.opened })
      filled_moved said text (tells_node column first is) = tells_node column (result_moved (Err (filled.NodeInRow column)) first) is
      filled_moved said text (tells_key cell fills is) = tells_key cell (result_moved (Err (filled.KeyText cell)) fills) is

      -- the content of the file has the same first fault
      pub content_same : (bytes : List ℕ) → content_fault stored bytes ≡ content_fault its bytes
      content_same bytes = one_fault stored.store its.store (length stored.definition.view.head) bytes stores_same
          ∙ ap (λ (it : ℕ). first_fault_in its.store.shape it bytes) width_same

    pub fill_moved : (name : List ℕ) (said : Status) (text : List ℕ) → IsExactFill files other name said text → IsExactFill files catalogue name said text
    fill_moved name said text exact = record {
      fills = λ number stored facts first here holds.
          let its = other_stored catalogue other alike number stored here in
          filled_moved number stored its.0 here its.1 facts said text
          (exact.fills number its.0 facts (subst (λ (it : List (List ℕ)). IsFirstOf it name number) alike.names first) its.1
          (named_moved (query_of stored.definition.view) (query_of its.0.definition.view) (views_same number stored its.0 here its.1 facts) facts holds));
      unnamed = subst (λ (it : List (List ℕ)). (said ≡ status.NoSuchFragment name) ↔ ¬ (Contains it name)) (sym alike.names) exact.unnamed;
    }

    -- ---- `audit`

    module _ (one_file : StoresHaveOneFile) where
      readable_moved : (contents : ℕ → List ℕ) → AreReadableFragments files catalogue contents → AreReadableFragments files other contents
      readable_moved contents readable number within =
          let (stored, here, has, none) = readable number (omega (arith, within, fragments_long catalogue other alike)) in
          let its = other_stored catalogue other alike number stored here in (
            its.0,
            its.1,
            subst (λ (it : List ℕ). HasWithin files it DATA_LIMIT (contents number))
                (one_file stored.store its.0.store (stores_same number stored its.0 here its.1 [])) has,
            sym (content_same number stored its.0 here its.1 [] (contents number)) ∙ none,
          )

      same_rows : (contents : ℕ → List ℕ) (fact : Fact (List ℕ)) → IsFileRow other.stores contents fact ↔ IsFileRow catalogue.stores contents fact
      same_rows contents fact = one_content other.stores catalogue.stores contents fact (sym alike.stores)

      -- an audit over the one is one over the other
      pub over_this : (facts : List (Fact Term)) (contents : ℕ → List ℕ) (outcome : Option Difference) → AuditsFiles other facts contents outcome
          → AuditsFiles catalogue facts contents outcome
      over_this facts contents outcome audits =
          audits_over catalogue other alike facts (IsFileRow catalogue.stores contents) outcome
          (audits-moved (rules_of other.rules) (map written other.rules) (names_of other.fragments) (views_of other.fragments) facts
          (IsFileRow other.stores contents) (IsFileRow catalogue.stores contents) (same_rows contents) outcome audits)

      over_other : (facts : List (Fact Term)) (contents : ℕ → List ℕ) (outcome : Option Difference) → AuditsFiles catalogue facts contents outcome
          → AuditsFiles other facts contents outcome
      over_other facts contents outcome audits =
          audits_over other catalogue (alike_back catalogue other alike) facts (IsFileRow other.stores contents) outcome
          (audits-moved (rules_of catalogue.rules) (map written catalogue.rules) (names_of catalogue.fragments) (views_of catalogue.fragments) facts
          (IsFileRow catalogue.stores contents) (IsFileRow other.stores contents)
          (λ fact. ((same_rows contents fact).1, (same_rows contents fact).0)) outcome audits)

      pub audit_moved : (said : Status) (text : List ℕ) → IsExactAudit files other said text → IsExactAudit files catalogue said text
      audit_moved said text exact = record {
        node = λ facts holds column.
            let found = exact.node facts (holds_moved IsAny facts holds) column in (
              (λ told. subst (λ (it : List ConjunctiveQuery). IsFirstNodeView it (database_of facts) column) (sym alike.views) (found.0 told)),
              (λ first. found.1 (subst (λ (it : List ConjunctiveQuery). IsFirstNodeView it (database_of facts) column) alike.views first)),
            );
        audits = λ facts contents holds readable.
            let audits = exact.audits facts contents (holds_moved IsAny facts holds) (readable_moved contents readable) in record {
              done = (
                (λ done. over_this facts contents None (audits.done.0 done)),
                (λ agree. audits.done.1 (over_other facts contents None agree)),
              );
              prints = λ done. audits.prints done ∙ sym (texts_one catalogue other alike);
              differs = λ texts difference.
                  let found = audits.differs (subst (λ (it : List ConjunctiveQuery). AreTextViews it (database_of facts)) alike.views texts) difference in (
                    (λ is. over_this facts contents (Some difference) (found.0 is)),
                    (λ first. found.1 (over_other facts contents (Some difference) first)),
                  );
            };
      }
