-- The results of the steps of an order are the answers of the candidate.
use Rattle.std.proofs.Common.{◌≡◌, ◌≢◌, ◌↔◌, ℕ, List, map}
use Rattle.std.specs.Prelude.{AllPairs}
use Rattle.esto_semantics.specs.Access.{Patterns}
use Rattle.esto_semantics.specs.Facts.{Database}
use Rattle.esto_semantics.specs.Listed.{candidate}
use Rattle.esto_semantics.specs.Queries.{ConjunctiveQuery, IsAnswerInto}
use Rattle.esto_semantics.specs.Views.{IsFragmentAnswer}
use Rattle.esto_semantics.specs.declared.fact.Value.{Value}
use Rattle.esto_semantics.specs.declared.fact.Value.TheVariants.{Text}
use Rattle.esto_columns.specs.Interned.{AreCodesOf}
use Rattle.esto_steps.specs.Meaning.{IsResult}
use Rattle.esto_steps.specs.Planned.{AreStepsOf, Fits, IsSafeOrder, ordered}
use Rattle.esto_steps.specs.Rows.{IsRowOf}
use Rattle.esto_steps.specs.Texts.{AreViewRows, AreCoded}
use Rattle.esto_steps.specs.declared.steps.Steps.{Steps}
use Rattle.esto_steps.proofs.CodedLemmas.{results_are_answers_in_texts, answers_over_a_database}
use Rattle.esto_plan.proofs.OrderLemmas.{same_answers, set_of_order, fixed_in_order}

module _ (texts : List (List ℕ)) (patterns : Patterns) (plan : ConjunctiveQuery) (order : List ℕ) (is_order : IsSafeOrder patterns plan order) (steps : Steps)
    (coded : ℕ → List (List ℕ)) (rows : ℕ → List (List (List ℕ)))
    (once : AllPairs ◌≢◌ texts) (are_coded : AreCoded texts coded rows) (are : AreStepsOf texts patterns (ordered plan order) steps)
    (fits : Fits (candidate plan is_order.0).body (IsRowOf coded)) where
  pub results_are_candidate_answers : (row : List (List ℕ))
      → ((codes : List ℕ) × IsResult (IsRowOf coded) steps codes × AreCodesOf texts codes row)
      ↔ IsAnswerInto (λ text. text) (candidate plan is_order.0) (IsRowOf rows) row
  results_are_candidate_answers row =
      let in_texts = results_are_answers_in_texts texts patterns (ordered plan order) steps coded rows once
      (λ term inside. fixed_in_order patterns plan.body is_order.0 order is_order.1 term (is_order.2 term inside)) are_coded are
      (λ atom fact inside holds same. fits atom fact (set_of_order patterns plan.body is_order.0 order is_order.1 atom inside) holds same) row in
      let by_set = same_answers (λ text. text) plan patterns is_order.0 order (IsRowOf rows) is_order.1 row in
      ((λ found. by_set.0 (in_texts.0 found)), (λ answer. in_texts.1 (by_set.1 answer)))

  pub results_over_databases : (views : List ConjunctiveQuery) (database : Database) → AreViewRows views database (candidate plan is_order.0) rows
      → (values : List Value)
      → IsFragmentAnswer views (candidate plan is_order.0) database values
      ↔ ((row : List (List ℕ)) × (values ≡ map Text row) × ((codes : List ℕ) × IsResult (IsRowOf coded) steps codes × AreCodesOf texts codes row))
  results_over_databases views database are_rows values =
      let over = answers_over_a_database views database (candidate plan is_order.0) rows is_order.2 are_rows values in (
        λ answer. let found = over.0 answer in (found.0, found.1, (results_are_candidate_answers found.0).1 found.2),
        λ (row, is, found). over.1 (row, is, (results_are_candidate_answers row).0 found),
      )
