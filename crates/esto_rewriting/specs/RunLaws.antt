-- What laws on runs of unions say.
use Rattle.std.specs.Prelude.{◌≡◌, ◌↔◌, ℕ, List, map, Option, Some, Contains}
use Rattle.esto_mapping.specs.Catalogues.{AreSame}
use Rattle.esto_mapping.specs.declared.catalogue.Catalogue.{Catalogue}
use Rattle.esto_constraint.specs.Constraints.{rules_of}
use Rattle.esto_query.specs.Same.{AreSameQueries}
use Rattle.esto_status.specs.Calm.{AgreeCalmly, Leads}
use Rattle.esto_ports.specs.Files.{Files}
use Rattle.esto_query.specs.declared.query.Query.{Query}
use Rattle.esto_run.specs.Laws.{FilesHoldViewRows, IsAnswerOfOne}
use Rattle.esto_docs.specs.Stores.{IsFileRow}
use Rattle.esto_semantics.specs.Facts.{Database}
use Rattle.esto_semantics.specs.Queries.{ConjunctiveQuery}
use Rattle.esto_semantics.specs.Rules.{Meets}
use Rattle.esto_semantics.specs.Unions.{IsUnionAnswer}
use Rattle.esto_semantics.specs.declared.fact.Value.{Value}
use Rattle.esto_semantics.specs.declared.fact.Value.TheVariants.{Text}
use Rattle.esto_stores.specs.Rows.{Row}
use Rattle.esto_union.specs.Unions.{AreRewritingOf, queries_of}
use Rattle.esto_views.specs.Fragments.{views_of}
use Rattle.esto_rewriting.specs.Members.{AreMembersOf}
use Rattle.esto_rewriting.specs.Run.{AreChosen, runs_union}
use Rattle.esto_rewriting.specs.declared.members.Member.{Member}

-- The candidates of the chosen sets are together an executable rewriting of the union.
abbrev pub ChosenAreRewriting : Type 0
ChosenAreRewriting =
    (catalogue : Catalogue) (queries : List Query) (number : Option ℕ) (members : List Member) (others : List ConjunctiveQuery)
    → AreMembersOf catalogue queries members → AreChosen number members others → AreRewritingOf catalogue queries others

-- For each database that meets the catalogue's rules, and whose view rows are the rows of the files for the fragments that the chosen sets use, the rows over
-- the files are exactly the union's answers.
abbrev pub RunsAnswerUnions : Type 0
RunsAnswerUnions =
    (catalogue : Catalogue) (queries : List Query) (number : Option ℕ) (members : List Member) (others : List ConjunctiveQuery) (contents : ℕ → List ℕ)
    (database : Database)
    → AreMembersOf catalogue queries members → AreChosen number members others → Meets (rules_of catalogue.rules) database
    → ((other : ConjunctiveQuery) → Contains others other → FilesHoldViewRows (views_of catalogue.fragments) database other catalogue.stores contents)
    → (values : List Value)
    → IsUnionAnswer (queries_of queries) database values
    ↔ ((row : Row) × (values ≡ map Text row) × IsAnswerOfOne (IsFileRow catalogue.stores contents) others row)

-- What `run` answers to a union over one of two catalogues that say the same it may answer to the same queries over the other.
abbrev pub UnionRunsAreMoved : Type 0
UnionRunsAreMoved =
    (files : Files) (catalogue other : Catalogue) (queries same : List Query) (number : Option ℕ) → AreSame catalogue other → AreSameQueries queries same
    → Leads (runs_union (Some files) other same number) (runs_union (Some files) catalogue queries number).goes
    (runs_union (Some files) catalogue queries number).stops

-- And it answers to them with one reply, or one refusal.
abbrev pub UnionRunsAreOne : Type 0
UnionRunsAreOne =
    (files : Files) (catalogue other : Catalogue) (queries same : List Query) (number : Option ℕ) → AreSame catalogue other → AreSameQueries queries same
    → AgreeCalmly ◌≡◌ (runs_union (Some files) catalogue queries number) (runs_union (Some files) other same number)
