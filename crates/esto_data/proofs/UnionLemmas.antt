-- Unions of queries: the same queries, one query alone, and rows that are the same.
use Rattle.std.proofs.Common.{◌≡◌, ◌↔◌, ℕ, List, [], ◌∷◌, map, length, get_or, refl, sym, ap, subst, ◌∙◌}
use Rattle.std.proofs.lemmas.List.{length-map}
use Rattle.std.proofs.lemmas.List.Elements.{Contains-get_or}
use Rattle.esto_mapping.specs.declared.dataset.Dataset.{Dataset}
use Rattle.esto_course.specs.Course.{judges}
use Rattle.esto_fill.specs.Databases.{database_of}
use Rattle.esto_fill.proofs.TextLemmas.{column_moved, texts_same}
use Rattle.esto_ports.specs.Files.{Files}
use Rattle.esto_query.specs.Making.{query_of}
use Rattle.esto_query.specs.declared.query.Query.{Query}
use Rattle.esto_semantics.specs.Queries.{ConjunctiveQuery, IsAnswer}
use Rattle.esto_semantics.specs.declared.fact.Fact.{Fact}
use Rattle.esto_semantics.specs.declared.fact.Value.{Value}
use Rattle.esto_semantics.specs.declared.fact.Value.TheVariants.{Text}
use Rattle.esto_stores.specs.Rows.{Row}
use Rattle.esto_term.proofs.ListLemmas.{Contains-head, Contains-map_from, Contains-one}
use Rattle.esto_term.specs.declared.term.Term.{Term}
use Rattle.esto_query.specs.Same.{AreSameQueries}
use Rattle.esto_query.specs.Unions.{FormUnion}
use Rattle.esto_run.specs.Texts.{FitHeads, union_rows_text}
use Rattle.esto_status.specs.declared.status.Status.{Status}
use Rattle.esto_run.proofs.SameLemmas.{same_query}
use Rattle.esto_run.proofs.RowsTextLemmas.{same_rows_text}
use Rattle.esto_data.specs.Answer.{IsAnswerOfFacts, IsUnionAnswerOfFacts, lists_texts}
use Rattle.esto_data.specs.Datasets.{AreNeeded, Names, OneNames}
use Rattle.esto_data.specs.Exact.{GivesExactly, HoldFacts}

-- ---- the same queries

pub same_queries : (queries others : List Query) → AreSameQueries queries others → map query_of queries ≡ map query_of others
same_queries [] [] same = refl
same_queries [] (other ∷ others) same = absurd same
same_queries (query ∷ queries) [] same = absurd same
same_queries (query ∷ queries) (other ∷ others) (same, rest) =
    let one = same_query query other same in
    let more = same_queries queries others rest in
    λ i. one i ∷ more i

-- rows have one text under the names of the first head
pub same_union_text : (queries others : List Query) → AreSameQueries queries others → (rows : List Row)
    → union_rows_text queries rows ≡ union_rows_text others rows
same_union_text [] [] same rows = refl
same_union_text [] (other ∷ others) same rows = absurd same
same_union_text (query ∷ queries) [] same rows = absurd same
same_union_text (query ∷ queries) (other ∷ others) (same, rest) rows = same_rows_text query other same rows

-- ---- the same rows of values

-- what is given exactly of the one rows is given exactly of the others, where they have one text
pub gives_moved : (One Other : List Value → Type 0) → ((values : List Value) → One values ↔ Other values) → (text_of other_of : List Row → List ℕ)
    → ((rows : List Row) → text_of rows ≡ other_of rows) → (said : Status) (text : List ℕ) → GivesExactly One text_of said text
    → GivesExactly Other other_of said text
gives_moved One Other same text_of other_of one said text exact = record {
  prints = λ texts.
      let found = exact.prints (λ values there. texts values ((same values).0 there)) in
      (found.0, (found.1.0, texts_same One Other same found.1.0 found.1.1, found.1.2 ∙ one found.1.0));
  node = λ column. (
    (λ told. column_moved One Other same column ((exact.node column).0 told)),
    (λ first. (exact.node column).1 (column_moved Other One (λ values. ((same values).1, (same values).0)) column first)),
  );
}

-- the answers of the same queries
pub same_union : (queries others : List ConjunctiveQuery) → queries ≡ others → (P : List ConjunctiveQuery → List Value → Type 0) (values : List Value)
    → P queries values ↔ P others values
same_union queries others same P values = (
  subst (λ (it : List ConjunctiveQuery). P it values) same,
  subst (λ (it : List ConjunctiveQuery). P it values) (sym same),
)

-- ---- one query

pub one_union : (query : Query) (facts : List (Fact Term)) (values : List Value)
    → IsUnionAnswerOfFacts (query ∷ []) facts values ↔ IsAnswerOfFacts query facts values
one_union query facts values = (
  (λ (other, inside, answer).
      subst (λ (it : ConjunctiveQuery). IsAnswer it (database_of facts) values) (sym (Contains-one (query_of query) other inside)) answer),
  (λ answer. (query_of query, Contains-head (query_of query) [], answer)),
)

pub one_names : (query : ConjunctiveQuery) (dataset : Dataset) → OneNames (query ∷ []) dataset ↔ Names query.body dataset
one_names query dataset = (
  (λ (other, inside, names). subst (λ (it : ConjunctiveQuery). Names it.body dataset) (sym (Contains-one query other inside)) names),
  (λ names. (query, Contains-head query [], names)),
)

-- ---- datasets that are needed for the one are needed for the other

module _ (Needs Others : Dataset → Type 0) (same : (dataset : Dataset) → Needs dataset ↔ Others dataset) where
  needed_moved : (datasets : List Dataset) (numbers : List ℕ) → AreNeeded datasets Needs numbers → AreNeeded datasets Others numbers
  needed_moved datasets numbers needed = record {
    exact = λ number. (
      (λ inside. let found = (needed.exact number).0 inside in (found.0, found.1, (same found.0).0 found.2)),
      (λ (dataset, at, needs). (needed.exact number).1 (dataset, at, (same dataset).1 needs)),
    );
    rising = needed.rising;
  }

  pub holds_for : (files : Files) (datasets : List Dataset) (facts : List (Fact Term)) → HoldFacts files datasets Needs facts
      → HoldFacts files datasets Others facts
  holds_for files datasets facts holds = record {
    contents = holds.contents;
    readable = λ number dataset at needs. holds.readable number dataset at ((same dataset).1 needs);
    numbers = holds.numbers;
    needed = needed_moved datasets holds.numbers holds.needed;
    facts_are = holds.facts_are;
  }

-- ---- the rows that are listed

-- they have as many cells as each head has terms
pub rows_fit : (queries : List Query) (facts : List (Fact Term)) (rows : List Row) → FormUnion queries
    → (lists_texts (IsUnionAnswerOfFacts queries facts)).goes rows → FitHeads queries rows
unfolding judges
rows_fit queries facts rows union texts query inside k d below =
    let (other, among, (m, keeps, sends, is)) =
    (texts.exact (map Text (get_or rows k d))).1 (get_or rows k d, Contains-get_or rows k d below, refl) in
    let from = Contains-map_from query_of queries other among in
    sym (length-map (get_or rows k d) Text) ∙ ap length is ∙ length-map other.head m ∙ ap (λ (it : ConjunctiveQuery). length it.head) (sym from.2)
    ∙ union.lengths from.0 query from.1 inside
