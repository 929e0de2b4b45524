-- What `fill`, `answer` and `audit` answer where nothing is wrong with the files.
use Rattle.std.specs.Prelude.{◌≡◌, ◌↔◌, ℕ, ◌<◌, List, length, map, slice_get, Contains, Some, None, Err}
use Rattle.esto_mapping.specs.declared.catalogue.Catalogue.{Catalogue}
use Rattle.esto_mapping.specs.declared.dataset.Dataset.{Dataset}
use Rattle.esto_constraint.specs.Constraints.{rules_of}
use Rattle.esto_constraint.specs.EncodingRules.{written}
use Rattle.esto_fill.specs.Databases.{database_of}
use Rattle.esto_fill.specs.Differences.{Agree, IsFirstDifference}
use Rattle.esto_fill.specs.Files.{dataset_fault}
use Rattle.esto_fill.specs.Filled.{Fills}
use Rattle.esto_fill.specs.Texts.{AreTextViews, AreTextsOf, HaveTextsOnly, IsFirstNodeColumn, IsFirstNodeView}
use Rattle.esto_ports.specs.declared.difference.Difference.{Difference}
use Rattle.esto_fill.specs.declared.datasets.DatasetBytes.{DatasetBytes}
use Rattle.esto_fill.specs.declared.filled.FillError.TheVariants.{KeyText}
use Rattle.esto_ports.specs.Files.{Files}
use Rattle.esto_query.specs.Making.{query_of}
use Rattle.esto_query.specs.declared.query.Query.{Query}
use Rattle.esto_run.specs.Answers.{rows_text}
use Rattle.esto_docs.specs.Stores.{IsFileRow}
use Rattle.esto_semantics.specs.declared.fact.Fact.{Fact}
use Rattle.esto_semantics.specs.declared.fact.Value.{Value}
use Rattle.esto_stores.specs.Rows.{Row}
use Rattle.esto_term.specs.declared.term.Term.{Term}
use Rattle.esto_views.specs.Fragments.{views_of}
use Rattle.esto_status.specs.Fetch.{HasWithin}
use Rattle.esto_run.specs.Fragments.{Stored, IsReadableFragment, IsStoredAt}
use Rattle.esto_run.specs.Texts.{union_rows_text}
use Rattle.esto_status.specs.declared.status.Status.{Status}
use Rattle.esto_status.specs.declared.status.Status.TheVariants as status
use Rattle.esto_data.specs.Answer.{IsAnswerOfFacts, IsUnionAnswerOfFacts}
use Rattle.esto_data.specs.Audit.{audit_text}
use Rattle.esto_data.specs.Datasets.{AreFactsOfFiles, AreNeeded, IsAny, Names, OneNames}
use Rattle.esto_data.specs.Fill.{IsFilled, IsFirstOf, IsRowOfView, names_of}
use Rattle.esto_status.specs.declared.limits.TheConstants.{DATA_LIMIT}

-- ---- the files

-- The dataset has a file, which is no longer than a dataset's may be, has these bytes after one leading mark, and they
-- have no fault.
abbrev pub IsReadableDataset : Files → Dataset → List ℕ → Type 0
IsReadableDataset files dataset bytes =
    (name : List ℕ) × (dataset.file ≡ Some name) × HasWithin files name DATA_LIMIT bytes × (dataset_fault dataset bytes ≡ None)

-- The contents of files, by the numbers of their datasets.
abbrev pub files_of : (ℕ → List ℕ) → List ℕ → List DatasetBytes
files_of contents numbers = map (λ number. record { dataset = number; bytes = contents number }) numbers

-- The files of the datasets that are needed are readable, and these are their facts.
pub record HoldFacts (files : Files) (datasets : List Dataset) (Needs : Dataset → Type 0) (facts : List (Fact Term)) : Type 0 where
  pub contents : ℕ → List ℕ
  pub readable : (number : ℕ) (dataset : Dataset) → slice_get datasets number ≡ Some dataset → Needs dataset
      → IsReadableDataset files dataset (contents number)
  pub numbers : List ℕ
  pub needed : AreNeeded datasets Needs numbers
  pub facts_are : AreFactsOfFiles datasets (files_of contents numbers) facts

-- The files of all fragments are readable, with these contents.
abbrev pub AreReadableFragments : Files → Catalogue → (ℕ → List ℕ) → Type 0
AreReadableFragments files catalogue contents =
    (number : ℕ) → number < length catalogue.fragments → IsReadableFragment files catalogue number (contents number)

-- ---- `answer`

-- The text prints exactly the rows of values, all of which are of texts, each once, in order.
abbrev pub PrintsRows : (List Value → Type 0) → (List Row → List ℕ) → List ℕ → Type 0
PrintsRows Rows text_of text = (rows : List Row) × AreTextsOf Rows rows × (text ≡ text_of rows)

-- Where each of the rows of values is a row of texts, the status is Done and the text prints exactly the rows. The
-- status tells of a node exactly where a row holds one, with the least column that has one.
pub record GivesExactly (Rows : List Value → Type 0) (text_of : List Row → List ℕ) (said : Status) (text : List ℕ) : Type 0 where
  pub prints : HaveTextsOnly Rows → (said ≡ status.Done) × PrintsRows Rows text_of text
  pub node : (column : ℕ) → (said ≡ status.NodeInRow column) ↔ IsFirstNodeColumn Rows column

-- The text prints exactly the answers of the query over the facts, all of which are rows of texts, each once, in order.
abbrev pub PrintsAnswersOfFacts : Query → List (Fact Term) → List ℕ → Type 0
PrintsAnswersOfFacts query facts text = PrintsRows (IsAnswerOfFacts query facts) (rows_text query) text

-- Where each answer of the query over the facts is a row of texts, the status is Done and the text prints exactly the
-- answers. The status tells of a node exactly where an answer holds one, with the least column that has one.
abbrev pub AnswersExactly : Query → List (Fact Term) → Status → List ℕ → Type 0
AnswersExactly query facts said text = GivesExactly (IsAnswerOfFacts query facts) (rows_text query) said text

-- So it is where the files of the datasets that the query names are readable. No rule is asked of their facts.
abbrev pub IsExactAnswer : Files → Catalogue → Query → Status → List ℕ → Type 0
IsExactAnswer files catalogue query said text =
    (facts : List (Fact Term)) → HoldFacts files catalogue.datasets (Names (query_of query).body) facts → AnswersExactly query facts said text

-- And so it is with the answers of the union of the queries, under the names of the first one's head, where the files
-- of the datasets that one of the queries names are readable.
abbrev pub IsExactUnionAnswer : Files → Catalogue → List Query → Status → List ℕ → Type 0
IsExactUnionAnswer files catalogue queries said text =
    (facts : List (Fact Term)) → HoldFacts files catalogue.datasets (OneNames (map query_of queries)) facts
    → GivesExactly (IsUnionAnswerOfFacts queries facts) (union_rows_text queries) said text

-- ---- `fill`

-- The status is Done and the text is that of a file with exactly the rows of the fragment's view over the facts, which
-- says these rows when it is read; or a row holds a node, and the status tells the least column that has one; or the
-- file is one of keys, and the status tells the first cell that it can't hold.
pub data FillsExactly (stored : Stored) (facts : List (Fact Term)) (said : Status) (text : List ℕ) : Type 0 where
  prints : said ≡ status.Done → IsFilled stored facts text → FillsExactly stored facts said text
  tells_node : (column : ℕ) → IsFirstNodeColumn (IsRowOfView stored.definition facts) column → said ≡ status.NodeInRow column
      → FillsExactly stored facts said text
  tells_key : (cell : List ℕ) → Fills stored.store.shape (IsRowOfView stored.definition facts) (Err (KeyText cell)) → said ≡ status.KeyText cell
      → FillsExactly stored facts said text

-- So it is where the catalogue has a fragment of the name, the first of which this is, and the files of the datasets
-- that its view names are readable. The status is NoSuchFragment exactly where it has none.
pub record IsExactFill (files : Files) (catalogue : Catalogue) (name : List ℕ) (said : Status) (text : List ℕ) : Type 0 where
  pub fills : (number : ℕ) (stored : Stored) (facts : List (Fact Term)) → IsFirstOf (names_of catalogue.fragments) name number
      → IsStoredAt catalogue number stored → HoldFacts files catalogue.datasets (Names (query_of stored.definition.view).body) facts
      → FillsExactly stored facts said text
  pub unnamed : (said ≡ status.NoSuchFragment name) ↔ ¬ (Contains (names_of catalogue.fragments) name)

-- ---- `audit`

-- The status is Done exactly where the facts meet the rules and each fragment's file holds exactly the rows of its view
-- over them, and then the text says so. Where the rows of all views are of texts and there is a difference, the status
-- tells the first.
pub record AuditsExactly (catalogue : Catalogue) (facts : List (Fact Term)) (contents : ℕ → List ℕ) (said : Status) (text : List ℕ) : Type 0 where
  pub done : (said ≡ status.Done)
      ↔ Agree (rules_of catalogue.rules) (views_of catalogue.fragments) (database_of facts) (IsFileRow catalogue.stores contents)
  pub prints : said ≡ status.Done → text ≡ audit_text catalogue
  pub differs : AreTextViews (views_of catalogue.fragments) (database_of facts) → (difference : Difference)
      → (said ≡ status.Differs difference)
      ↔ IsFirstDifference (rules_of catalogue.rules) (map written catalogue.rules) (names_of catalogue.fragments) (views_of catalogue.fragments) facts
      (IsFileRow catalogue.stores contents) difference

-- Where the files of all datasets are readable, the status tells of a node exactly where the rows of a view hold one,
-- with the least column of the first such view, whatever the files of fragments are. Where those are readable too, the
-- audit is exact.
pub record IsExactAudit (files : Files) (catalogue : Catalogue) (said : Status) (text : List ℕ) : Type 0 where
  pub node : (facts : List (Fact Term)) → HoldFacts files catalogue.datasets IsAny facts → (column : ℕ)
      → (said ≡ status.NodeInRow column) ↔ IsFirstNodeView (views_of catalogue.fragments) (database_of facts) column
  pub audits : (facts : List (Fact Term)) (contents : ℕ → List ℕ) → HoldFacts files catalogue.datasets IsAny facts
      → AreReadableFragments files catalogue contents → AuditsExactly catalogue facts contents said text
