-- What `answer` prints where all datasets are loaded.
use Rattle.std.proofs.Common.{◌≡◌, ◌↔◌, ℕ, List, map, slice_get, Contains, Option, Some, refl, sym, subst, ◌∙◌, arith}
use Rattle.std.specs.Prelude.{IsSome}
use Rattle.std.proofs.lemmas.Option.{same_Some}
use Rattle.esto_mapping.specs.declared.catalogue.Catalogue.{Catalogue}
use Rattle.esto_mapping.specs.declared.dataset.Dataset.{Dataset}
use Rattle.esto_course.specs.Course.{judges, gives, and_then}
use Rattle.esto_fill.specs.Databases.{database_of}
use Rattle.esto_fill.specs.Files.{HasRelation}
use Rattle.esto_fill.specs.Laws.{AnswersRestOnDatasets}
use Rattle.esto_fill.specs.Texts.{AreTextsOf, HaveTextsOnly}
use Rattle.esto_fill.specs.declared.datasets.DatasetBytes.{DatasetBytes}
use Rattle.esto_fill.proofs.LawLemmas.{texts_no_node}
use Rattle.esto_fill.proofs.TextLemmas.{texts_same}
use Rattle.esto_ports.specs.Files.{Files}
use Rattle.esto_query.specs.Making.{query_of}
use Rattle.esto_query.specs.declared.query.Query.{Query}
use Rattle.esto_semantics.specs.Queries.{ConjunctiveQuery, IsAnswer}
use Rattle.esto_semantics.specs.declared.fact.Fact.{Fact}
use Rattle.esto_semantics.specs.Unions.{IsUnionAnswer}
use Rattle.esto_semantics.specs.declared.fact.Value.{Value}
use Rattle.esto_semantics.specs.declared.fact.Value.TheVariants.{Text}
use Rattle.esto_stores.specs.Rows.{Row}
use Rattle.esto_term.proofs.ListLemmas.{Contains-map, Contains-map_from}
use Rattle.esto_term.specs.declared.term.Term.{Term}
use Rattle.esto_query.specs.Same.{AreSameQueries}
use Rattle.esto_status.specs.Calm.{Leads}
use Rattle.esto_status.specs.Fetch.{fetches}
use Rattle.esto_run.specs.Fragments.{IsReadableFragment, opens_fragment}
use Rattle.esto_run.specs.Texts.{union_rows_text}
use Rattle.esto_status.specs.declared.reply.Reply.TheVariants.{Done}
use Rattle.esto_status.proofs.LeadLemmas.{then-leads, leads-more, gives-leads}
use Rattle.esto_data.specs.Answer.{IsUnionAnswerOfFacts, answers_union, lists_texts}
use Rattle.esto_data.specs.Datasets.{IsAny, Names, OneNames, loads, opens_dataset}
use Rattle.esto_data.specs.Exact.{PrintsRows}
use Rattle.esto_data.specs.DataLaws.{DataLaws}
use Rattle.esto_data.proofs.DatasetLemmas.{sources_there}
use Rattle.esto_data.proofs.LeadLemmas.{AreLoaded, AreOpenedFiles, CanOpen, are_loaded, entries_apart, loads_never}
use Rattle.esto_data.proofs.LoadLemmas.{dataset_agree}
use Rattle.esto_data.proofs.UnionLemmas.{same_queries, same_union, same_union_text}

-- ---- the files of some of the datasets

module _ (files : Files) (datasets : List Dataset) where
  -- the entry of a number that is among those that were opened
  entry_of : (numbers : List ℕ) (entries : List DatasetBytes) → AreOpenedFiles (Some files) datasets numbers entries → (number : ℕ) → Contains numbers number
      → (entry : DatasetBytes) × Contains entries entry × (entry.dataset ≡ number)
  entry_of numbers entries opened number inside =
      let found = Contains-map_from (λ (entry : DatasetBytes). entry.dataset) entries number
      (subst (λ (it : List ℕ). Contains it number) (sym opened.numbers_are) inside) in
      (found.0, found.1, found.2)

  number_of : (numbers : List ℕ) (entries : List DatasetBytes) → AreOpenedFiles (Some files) datasets numbers entries → (entry : DatasetBytes)
      → Contains entries entry → Contains numbers entry.dataset
  number_of numbers entries opened entry inside =
      subst (λ (it : List ℕ). Contains it entry.dataset) opened.numbers_are (Contains-map (λ (it : DatasetBytes). it.dataset) entries entry inside)

  one_entry : (entry other : DatasetBytes) → entry.dataset ≡ other.dataset → (opens_dataset (Some files) datasets entry.dataset).goes entry.bytes
      → (opens_dataset (Some files) datasets other.dataset).goes other.bytes → entry ≡ other
  one_entry entry other same here there =
      let bytes : entry.bytes ≡ other.bytes =
      (dataset_agree files datasets other.dataset).one entry.bytes other.bytes
      (subst (λ (it : ℕ). (opens_dataset (Some files) datasets it).goes entry.bytes) same here) there in
      λ i. record { dataset = same i; bytes = bytes i }

  module _ (facts : List (Fact Term)) (all : AreLoaded (Some files) datasets IsAny facts) where
    -- a dataset whose file was loaded can be opened
    each_can : ((number : ℕ) (dataset : Dataset) → slice_get datasets number ≡ Some dataset → IsSome dataset.file) → (Needs : Dataset → Type 0)
        → (number : ℕ) (dataset : Dataset) → slice_get datasets number ≡ Some dataset → Needs dataset → CanOpen (Some files) datasets number
    each_can have Needs number dataset at needs =
        let entry = entry_of all.numbers all.entries all.opened number ((all.needed.exact number).1 (dataset, at, tt)) in record {
          dataset = dataset;
          there = at;
          file = have number dataset at;
          never = λ said caused stop. (dataset_agree files datasets number).apart entry.0.bytes said caused
              (subst (λ (it : ℕ). (opens_dataset (Some files) datasets it).goes entry.0.bytes) entry.2 (all.opened.opened entry.0 entry.1)) stop;
        }

    module _ (query : ConjunctiveQuery) (some : List (Fact Term)) (Needs : Dataset → Type 0)
        (names : (dataset : Dataset) → Names query.body dataset → Needs dataset) (own : AreLoaded (Some files) datasets Needs some) where
      within : (file : DatasetBytes) → Contains own.entries file → Contains all.entries file
      within file inside =
          let needed = (own.needed.exact file.dataset).0 (number_of own.numbers own.entries own.opened file inside) in
          let entry = entry_of all.numbers all.entries all.opened file.dataset ((all.needed.exact file.dataset).1 (needed.0, needed.1, tt)) in
          subst (Contains all.entries)
          (one_entry entry.0 file entry.2 (all.opened.opened entry.0 entry.1) (own.opened.opened file inside)) entry.1

      covers : (atom : Fact Term) (file : DatasetBytes) → Contains query.body atom → Contains all.entries file
          → HasRelation datasets file.dataset atom.relation → Contains own.entries file
      covers atom file inside there (dataset, place, at, less, is) =
          let needs : Names query.body dataset = (atom, inside, (omega (arith, is), omega (arith, is, less))) in
          let entry = entry_of own.numbers own.entries own.opened file.dataset ((own.needed.exact file.dataset).1 (dataset, at, names dataset needs)) in
          subst (Contains own.entries)
          (one_entry entry.0 file entry.2 (own.opened.opened entry.0 entry.1) (all.opened.opened file there)) entry.1

      -- the query has the same answers of texts over the facts of some of the files
      pub same_answers : AnswersRestOnDatasets
          → ((row : Row) → IsAnswer query (database_of facts) (map Text row) ↔ IsAnswer query (database_of some) (map Text row))
          × (HaveTextsOnly (IsAnswer query (database_of facts)) → HaveTextsOnly (IsAnswer query (database_of some)))
      same_answers rest =
          rest datasets all.entries own.entries facts some all.facts_are.next own.facts_are.next query
          (entries_apart all.numbers all.entries all.opened.numbers_are all.needed.rising)
          (entries_apart own.numbers own.entries own.opened.numbers_are own.needed.rising) within covers all.facts_are.are own.facts_are.are

-- ---- the answers

-- a fragment's file that is readable is opened
pub readable_goes : (files : Files) (catalogue : Catalogue) (number : ℕ) (bytes : List ℕ) → IsReadableFragment files catalogue number bytes
    → (opens_fragment (Some files) catalogue number).goes bytes
unfolding fetches judges and_then gives
readable_goes files catalogue number bytes (stored, at, has, none) = (stored, at, (bytes, has, (tt, none, refl)))

-- each dataset has a file where all are loaded
have_files : (files : Option Files) (datasets : List Dataset) (facts : List (Fact Term)) → (loads files datasets IsAny).goes facts
    → (number : ℕ) (dataset : Dataset) → slice_get datasets number ≡ Some dataset → IsSome dataset.file
unfolding and_then judges
have_files files datasets facts (numbers, needed, (given, have, more)) number dataset at =
    let source = sources_there datasets 0 numbers have number ((needed.exact number).1 (dataset, at, tt)) in
    subst (λ (it : Dataset). IsSome it.file) (same_Some source.0.dataset dataset (sym source.1.there ∙ at)) (subst IsSome (sym source.1.file_is) refl)

-- rows that are the texts of the one are those of the other, where both have the same rows of texts
texts_over : (One Other : List Value → Type 0) → ((row : Row) → One (map Text row) ↔ Other (map Text row)) → HaveTextsOnly One → (rows : List Row)
    → AreTextsOf Other rows → AreTextsOf One rows
texts_over One Other same texts rows are = record {
  exact = λ values. (
    (λ answers.
        let (row, is) = texts values answers in
        let found = (are.exact (map Text row)).0 ((same row).0 (subst One is answers)) in
        (found.0, found.1, is ∙ found.2)),
    (λ (row, inside, is).
        subst One (sym is) ((same row).1 ((are.exact (map Text row)).1 (row, inside, refl)))),
  );
  rising = are.rising;
}

module _ (laws : DataLaws) (rest : AnswersRestOnDatasets) (files : Files) (datasets : List Dataset) (facts : List (Fact Term))
    (loaded : (loads (Some files) datasets IsAny).goes facts) where
  module _ (queries : List Query) (texts : HaveTextsOnly (IsUnionAnswerOfFacts queries facts)) where
    abbrev needs : Dataset → Type 0
    needs = OneNames (map query_of queries)

    module _ (some : List (Fact Term)) (goes : (loads (Some files) datasets needs).goes some) where
      -- each query has the same answers of texts over the facts of the files that the union needs
      one_same : (query : ConjunctiveQuery) → Contains (map query_of queries) query
          → ((row : Row) → IsAnswer query (database_of facts) (map Text row) ↔ IsAnswer query (database_of some) (map Text row))
          × (HaveTextsOnly (IsAnswer query (database_of facts)) → HaveTextsOnly (IsAnswer query (database_of some)))
      one_same query inside =
          same_answers files datasets facts (are_loaded (Some files) datasets IsAny facts loaded) query some needs (λ dataset named. (query, inside, named))
          (are_loaded (Some files) datasets needs some goes) rest

      union_same : (row : Row) → IsUnionAnswerOfFacts queries facts (map Text row) ↔ IsUnionAnswerOfFacts queries some (map Text row)
      union_same row = (
        (λ (query, inside, answer). (query, inside, ((one_same query inside).0 row).0 answer)),
        (λ (query, inside, answer). (query, inside, ((one_same query inside).0 row).1 answer)),
      )

      union_texts : HaveTextsOnly (IsUnionAnswerOfFacts queries some)
      union_texts values (query, inside, answer) = (one_same query inside).1 (λ own holds. texts own (query, inside, holds)) values answer

    rows_lead : (some : List (Fact Term)) → (loads (Some files) datasets needs).goes some
        → Leads (lists_texts (IsUnionAnswerOfFacts queries some)) (AreTextsOf (IsUnionAnswerOfFacts queries facts)) (λ _. ⊥)
    unfolding judges
    rows_lead some goes = record {
      goes = λ rows are. texts_over (IsUnionAnswerOfFacts queries facts) (IsUnionAnswerOfFacts queries some) (union_same some goes) texts rows are;
      stops = λ said caused (column, first, is). texts_no_node (IsUnionAnswerOfFacts queries some) column (union_texts some goes) first;
    }

    loads_lead : Leads (loads (Some files) datasets needs) (λ some. (loads (Some files) datasets needs).goes some) (λ _. ⊥)
    loads_lead = record {
      goes = λ some goes. goes;
      stops = loads_never (Some files) datasets needs
          (each_can files datasets facts (are_loaded (Some files) datasets IsAny facts loaded) (have_files (Some files) datasets facts loaded) needs);
    }

  -- the union is answered
  pub union_leads : (queries others : List Query) → AreSameQueries queries others → HaveTextsOnly (IsUnionAnswerOfFacts queries facts)
      → (catalogue : Catalogue) → datasets ≡ catalogue.datasets
      → Leads (answers_union (Some files) catalogue others)
      (λ reply. (text : List ℕ) × (reply ≡ Done text) × PrintsRows (IsUnionAnswerOfFacts queries facts) (union_rows_text queries) text) (λ _. ⊥)
  union_leads queries others same texts catalogue is =
      then-leads _ _ (λ some. (loads (Some files) datasets (OneNames (map query_of others))).goes some) _ _
      (subst (λ (it : List Dataset). Leads (loads (Some files) it (OneNames (map query_of others)))
      (λ some. (loads (Some files) datasets (OneNames (map query_of others))).goes some) (λ _. ⊥)) is (loads_lead others other_texts))
      (λ some goes. then-leads _ _ (AreTextsOf (IsUnionAnswerOfFacts others facts)) _ _ (rows_lead others other_texts some goes)
      (λ rows are. leads-more _ _ _ (λ _. ⊥) (λ reply reply_is. (
        union_rows_text others rows,
        reply_is,
        (
          rows,
          texts_same (IsUnionAnswerOfFacts others facts) (IsUnionAnswerOfFacts queries facts) back rows are,
          sym (same_union_text queries others same rows),
        ),
      )) (gives-leads (Done (union_rows_text others rows)) (λ _. ⊥))))
    where
      one : map query_of queries ≡ map query_of others
      one = same_queries queries others same

      back : (values : List Value) → IsUnionAnswerOfFacts others facts values ↔ IsUnionAnswerOfFacts queries facts values
      back values = same_union (map query_of others) (map query_of queries) (sym one)
          (λ them own. IsUnionAnswer them (database_of facts) own) values

      other_texts : HaveTextsOnly (IsUnionAnswerOfFacts others facts)
      other_texts values holds = texts values ((back values).0 holds)
