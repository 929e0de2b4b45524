-- Laws of runs.
use Rattle.std.proofs.Common.{◌≡◌, ◌↔◌, Some, map, slice_get, Contains}
use Rattle.esto_steps.proofs.CodedLemmas.{answers_over_held}
use Rattle.esto_semantics.specs.Listed.{candidate}
use Rattle.esto_semantics.specs.Queries.{ConjunctiveQuery}
use Rattle.esto_semantics.specs.Views.{IsFragmentAnswer}
use Rattle.esto_semantics.specs.declared.fact.Value.TheVariants.{Text}
use Rattle.esto_stores.specs.Rows.{Row}
use Rattle.esto_run.specs.Laws.{AnswersAreOverFiles, IsAnswerOver, RewritingsAnswerQueries, UnionsAnswerOverFiles}
use Rattle.esto_docmodel.specs.declared.file.Store.{Store}
use Rattle.esto_docs.specs.Stores.{IsFileRow, IsRowIn}

pub answers_over_files : AnswersAreOverFiles
answers_over_files stores files numbers opened query are uses row = (
  (λ (m, keeps, sends, is). (m, keeps, (λ atom inside. (are _ (uses atom inside)).0 (sends atom inside)), is)),
  (λ (m, keeps, sends, is). (m, keeps, (λ atom inside. (are _ (uses atom inside)).1 (sends atom inside)), is)),
)

pub rewritings_answer : RewritingsAnswerQueries
rewritings_answer rules views patterns query plan set stores files database is meets hold values =
    let over = answers_over_held views database (candidate plan set)
    (λ fragment row. (store : Store) × (slice_get stores fragment ≡ Some store) × IsRowIn store.shape (files fragment) row) is.safe hold values in (
      (λ answer. over.0 (is.equivalent.1 database meets values answer)),
      (λ found. is.equivalent.0 database meets values (over.1 found)),
    )

pub unions_answer : UnionsAnswerOverFiles
unions_answer views database queries stores files each values = (
  (λ (query, inside, answer). let found = (over query inside).0 answer in (found.0, found.1, (query, inside, found.2))),
  (λ (row, is, (query, inside, answer)). (query, inside, (over query inside).1 (row, is, answer))),
)
  where
    over : (query : ConjunctiveQuery) → Contains queries query → IsFragmentAnswer views query database values
        ↔ ((row : Row) × (values ≡ map Text row) × IsAnswerOver (IsFileRow stores files) query row)
    over query inside = answers_over_held views database query
        (λ fragment row. (store : Store) × (slice_get stores fragment ≡ Some store) × IsRowIn store.shape (files fragment) row)
        (each query inside).0 (each query inside).1 values
