-- What `run` answers to a union.
use Rattle.std.specs.Prelude.{◌≡◌, ◌≢◌, ◌↔◌, ℕ, ◌<◌, List, [], map, slice_get, Option, Some, Contains}
use Rattle.esto_mapping.specs.declared.catalogue.Catalogue.{Catalogue}
use Rattle.esto_chase_laws.specs.declared.clash.Clash.{Clash}
use Rattle.esto_constraint.specs.Constraints.{rules_of}
use Rattle.esto_status.specs.Calm.{Leads}
use Rattle.esto_run.specs.Fragments.{IsReadableFragment}
use Rattle.esto_status.specs.Line.{line_of}
use Rattle.esto_status.specs.Replies.{reply_status, reply_text}
use Rattle.esto_status.specs.declared.status.Status.{Status}
use Rattle.esto_status.specs.declared.status.Status.TheVariants as status
use Rattle.esto_rewriting.specs.Listing.{IsClash}
use Rattle.esto_ports.specs.Files.{Files}
use Rattle.esto_query.specs.declared.query.Query.{Query}
use Rattle.esto_run.specs.Answers.{IsAnswersText, rows_text}
use Rattle.esto_run.specs.Laws.{FilesHoldViewRows}
use Rattle.esto_semantics.specs.Facts.{Database}
use Rattle.esto_semantics.specs.Queries.{ConjunctiveQuery}
use Rattle.esto_semantics.specs.Rules.{Meets}
use Rattle.esto_semantics.specs.Unions.{IsUnionAnswer}
use Rattle.esto_semantics.specs.declared.fact.Fact.{Fact}
use Rattle.esto_semantics.specs.declared.fact.Value.{Value}
use Rattle.esto_semantics.specs.declared.fact.Value.TheVariants.{Text}
use Rattle.esto_stores.specs.Rows.{Row}
use Rattle.esto_term.specs.declared.term.Term.{Term}
use Rattle.esto_union.specs.Unions.{AreRewritingOf, queries_of}
use Rattle.esto_views.specs.Fragments.{views_of}
use Rattle.esto_rewriting.specs.Exact.{HasNoRewriting, HaveAnswers}
use Rattle.esto_rewriting.specs.Members.{AreMembersOf, OneIsEmpty}
use Rattle.esto_rewriting.specs.Run.{AreChosen, IsLeastLength, IsUnionRunText, runs_union}
use Rattle.esto_rewriting.specs.declared.members.Member.{Member}

-- The text is that of exactly the union's answers over the database, each once, in order, under the names of the first query's head; and all of them are rows
-- of texts.
pub record PrintsUnionAnswers (queries : List Query) (database : Database) (text : List ℕ) : Type 0 where
  pub first : Query
  pub at : slice_get queries 0 ≡ Some first
  pub exact : IsAnswersText first (λ row. IsUnionAnswer (queries_of queries) database (map Text row)) text
  pub texts : (values : List Value) → IsUnionAnswer (queries_of queries) database values → (row : Row) × (values ≡ map Text row)

-- Some query is satisfiable, of each such query a set of its list is the pick or has the number, and the files of the fragments that these sets use are
-- readable, with these contents.
pub record CanRunUnion (files : Files) (catalogue : Catalogue) (queries : List Query) (number : Option ℕ) : Type 0 where
  pub answers : HaveAnswers catalogue queries
  pub members : List Member
  pub are : AreMembersOf catalogue queries members
  pub others : List ConjunctiveQuery
  pub chosen : AreChosen number members others
  pub contents : ℕ → List ℕ
  pub readable : (other : ConjunctiveQuery) → Contains others other → (atom : Fact Term) → Contains other.body atom
      → IsReadableFragment files catalogue atom.relation (contents atom.relation)

-- The queries over fragments are an executable rewriting of the union, and the text is that of exactly their rows over the files together. For each database
-- that meets the catalogue's rules, and whose view rows are the rows of the files for the fragments that they use, these are exactly the union's answers.
pub record PrintsUnionRun (catalogue : Catalogue) (queries : List Query) (others : List ConjunctiveQuery) (contents : ℕ → List ℕ) (text : List ℕ) : Type 0 where
  pub rewriting : AreRewritingOf catalogue queries others
  pub rows : IsUnionRunText catalogue queries others contents text
  pub answers : (database : Database) → Meets (rules_of catalogue.rules) database
      → ((other : ConjunctiveQuery) → Contains others other → FilesHoldViewRows (views_of catalogue.fragments) database other catalogue.stores contents)
      → PrintsUnionAnswers queries database text

-- The clash is that of the first query's run, and the text has the names of its head alone.
abbrev pub TellsFirstClash : Catalogue → List Query → Clash → List ℕ → Type 0
TellsFirstClash catalogue queries clash text =
    (first : Query) × (slice_get queries 0 ≡ Some first) × IsClash catalogue first clash × (text ≡ rows_text first [])

-- The number is asked for, no list of the satisfiable queries is empty, and the number is above the least length of these lists.
pub record IsAboveLists (catalogue : Catalogue) (queries : List Query) (number : Option ℕ) (asked least : ℕ) : Type 0 where
  pub asks : number ≡ Some asked
  pub members : List Member
  pub are : AreMembersOf catalogue queries members
  pub full : ¬ (OneIsEmpty members)
  pub shortest : IsLeastLength members least
  pub above : least < asked

-- The status is Done exactly where the union can be run, and then the text prints the run of the chosen sets. It is Unsatisfiable exactly where no query is
-- satisfiable, with the first query's clash and the names of its head; NoRewriting exactly where the union has no executable rewriting; and NoSuchNumber
-- exactly where the number is above the least length of the lists, with both. Where some query is satisfiable, the text of every status but Done is its line.
pub record RunsUnionExactly (files : Files) (catalogue : Catalogue) (queries : List Query) (number : Option ℕ) (said : Status) (text : List ℕ) : Type 0 where
  pub runs : (can : CanRunUnion files catalogue queries number) → (said ≡ status.Done) × PrintsUnionRun catalogue queries can.others can.contents text
  pub done : said ≡ status.Done → CanRunUnion files catalogue queries number
  pub unsatisfiable : ((clash : Clash) × (said ≡ status.Unsatisfiable clash)) ↔ ¬ (HaveAnswers catalogue queries)
  pub clash : (clash : Clash) → said ≡ status.Unsatisfiable clash → TellsFirstClash catalogue queries clash text
  pub no_rewriting : (said ≡ status.NoRewriting) ↔ HasNoRewriting catalogue queries
  pub no_number : (asked least : ℕ) → (said ≡ status.NoSuchNumber asked least) ↔ IsAboveLists catalogue queries number asked least
  pub line : HaveAnswers catalogue queries → said ≢ status.Done → text ≡ line_of said

-- What `run` answers to a union is exact.
abbrev pub UnionRunsAreExact : Type 0
UnionRunsAreExact =
    (files : Files) (catalogue : Catalogue) (queries : List Query) (number : Option ℕ)
    → Leads (runs_union (Some files) catalogue queries number)
    (λ reply. RunsUnionExactly files catalogue queries number (reply_status reply) (reply_text reply))
    (λ said. RunsUnionExactly files catalogue queries number said (line_of said))
