-- What laws on the courses of the commands on data say.
use Rattle.std.specs.Prelude.{◌≡◌, ◌≢◌, ℕ, List, Some}
use Rattle.esto_mapping.specs.declared.catalogue.Catalogue.{Catalogue}
use Rattle.esto_constraint.specs.Constraints.{rules_of}
use Rattle.esto_fill.specs.Databases.{database_of}
use Rattle.esto_fill.specs.Differences.{Agree}
use Rattle.esto_fill.specs.Texts.{HaveTextsOnly}
use Rattle.esto_ports.specs.Files.{Files}
use Rattle.esto_query.specs.declared.query.Query.{Query}
use Rattle.esto_docs.specs.Stores.{IsFileRow}
use Rattle.esto_semantics.specs.declared.fact.Fact.{Fact}
use Rattle.esto_term.specs.declared.term.Term.{Term}
use Rattle.esto_views.specs.Fragments.{views_of}
use Rattle.esto_status.specs.Answers.{IsCaused}
use Rattle.esto_status.specs.Calm.{IsOne, Leads, SaysAlways}
use Rattle.esto_run.specs.Fragments.{IsReadableFragment}
use Rattle.esto_opening.specs.Opening.{FilesSayCatalogue, FilesSayQuery, FilesSayUnion, opens_catalogue, opens_query, opens_union}
use Rattle.esto_run.specs.Texts.{union_rows_text}
use Rattle.esto_status.specs.declared.reply.Reply.{Reply}
use Rattle.esto_status.specs.declared.reply.Reply.TheVariants.{Done}
use Rattle.esto_status.specs.declared.status.Status.{Status}
use Rattle.esto_status.specs.declared.status.Status.TheVariants as status
use Rattle.esto_data.specs.Answer.{IsAnswerOfFacts, IsUnionAnswerOfFacts}
use Rattle.esto_top.specs.Answer.{answer_course}
use Rattle.esto_top.specs.Audit.{audit_course}
use Rattle.esto_data.specs.Exact.{IsExactAnswer, IsExactAudit, IsExactFill, IsExactUnionAnswer, PrintsAnswersOfFacts, PrintsRows}
use Rattle.esto_top.specs.Fill.{fill_course, make_course}
use Rattle.esto_opening.specs.Alike.{CataloguesOpenAlike, UnionsOpenAlike}
use Rattle.esto_data.specs.DataLaws.{DataLaws}

-- ---- one outcome

-- The course of `fill` over the same files has one reply or one refusal, where no fetch is at a fault.
abbrev pub FillsAreOne : Type 0
FillsAreOne = (files : Files) (catalogue_name name : List ℕ) → IsOne (fill_course (Some files) catalogue_name name)

-- So it is with a text that is made of the rows of the fragment's view.
abbrev pub MakesAreOne : Type 0
MakesAreOne = (files : Files) (catalogue_name name : List ℕ) → IsOne (make_course (Some files) catalogue_name name)

-- So has the course of `answer`.
abbrev pub AnswersAreOne : Type 0
AnswersAreOne = (files : Files) (catalogue_name query_name : List ℕ) → IsOne (answer_course (Some files) catalogue_name query_name)

-- So has the course of `audit`.
abbrev pub AuditsAreOne : Type 0
AuditsAreOne = (files : Files) (name : List ℕ) → IsOne (audit_course (Some files) name)

-- ---- which outcome

-- What `fill` says is exact, where the files say a catalogue.
abbrev pub FillsAreExact : Type 0
FillsAreExact =
    (files : Files) (catalogue_name name : List ℕ) (catalogue : Catalogue) → FilesSayCatalogue files catalogue_name catalogue
    → SaysAlways (fill_course (Some files) catalogue_name name) (IsExactFill files catalogue name)

-- What `answer` says is exact, where the files say a catalogue and a query over it.
abbrev pub AnswersAreExact : Type 0
AnswersAreExact =
    (files : Files) (catalogue_name query_name : List ℕ) (catalogue : Catalogue) (query : Query) → FilesSayCatalogue files catalogue_name catalogue
    → FilesSayQuery files query_name catalogue query
    → SaysAlways (answer_course (Some files) catalogue_name query_name) (IsExactAnswer files catalogue query)

-- So it is where they say a catalogue and a union of queries over it.
abbrev pub UnionAnswersAreExact : Type 0
UnionAnswersAreExact =
    (files : Files) (catalogue_name query_name : List ℕ) (catalogue : Catalogue) (queries : List Query) → FilesSayCatalogue files catalogue_name catalogue
    → FilesSayUnion files query_name catalogue queries
    → SaysAlways (answer_course (Some files) catalogue_name query_name) (IsExactUnionAnswer files catalogue queries)

-- What `audit` says is exact, where the files say a catalogue.
abbrev pub AuditsAreExact : Type 0
AuditsAreExact =
    (files : Files) (name : List ℕ) (catalogue : Catalogue) → FilesSayCatalogue files name catalogue
    → SaysAlways (audit_course (Some files) name) (IsExactAudit files catalogue)

-- ---- agreement

-- The facts of all datasets' files meet the rules, and the files of all fragments hold exactly the rows of their views. A union of queries over the catalogue
-- that has no answers over these facts but rows of texts is answered, and the text prints them, though only the files of the datasets that it names are loaded.
-- So is a query.
pub record AreAudited (files : Files) (catalogue_name : List ℕ) (catalogue : Catalogue) : Type 0 where
  pub facts : List (Fact Term)
  pub contents : ℕ → List ℕ
  pub agree : Agree (rules_of catalogue.rules) (views_of catalogue.fragments) (database_of facts) (IsFileRow catalogue.stores contents)
  pub readable : (number : ℕ) (bytes : List ℕ) → IsReadableFragment files catalogue number bytes → bytes ≡ contents number
  pub unions : (query_name : List ℕ) (queries : List Query) → (opens_union (Some files) query_name catalogue).goes queries
      → HaveTextsOnly (IsUnionAnswerOfFacts queries facts)
      → Leads (answer_course (Some files) catalogue_name query_name)
      (λ reply. (text : List ℕ) × (reply ≡ Done text) × PrintsRows (IsUnionAnswerOfFacts queries facts) (union_rows_text queries) text) (λ _. ⊥)
  pub answers : (query_name : List ℕ) (query : Query) → (opens_query (Some files) query_name catalogue).goes query
      → HaveTextsOnly (IsAnswerOfFacts query facts)
      → Leads (answer_course (Some files) catalogue_name query_name)
      (λ reply. (text : List ℕ) × (reply ≡ Done text) × PrintsAnswersOfFacts query facts text) (λ _. ⊥)

-- So it is where `audit` has a reply, for each catalogue that its file says.
abbrev pub RepliesAreAudited : Type 0
RepliesAreAudited =
    (files : Files) (catalogue_name : List ℕ) (catalogue : Catalogue) (reply : Reply) → (audit_course (Some files) catalogue_name).goes reply
    → (opens_catalogue (Some files) catalogue_name).goes catalogue → AreAudited files catalogue_name catalogue

-- `audit` never refuses with Done.
abbrev pub AuditsRefuse : Type 0
AuditsRefuse =
    (files : Files) (name : List ℕ) (said : Status) → IsCaused ⊥ said → (audit_course (Some files) name).stops said → said ≢ status.Done

-- ---- the laws below

-- The same files say the same; and what the commands on data say is determined.
pub record DataCommandLaws : Type 0 where
  pub catalogues : CataloguesOpenAlike
  pub unions : UnionsOpenAlike
  pub below : DataLaws
