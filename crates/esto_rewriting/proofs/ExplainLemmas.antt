-- The course of a certificate that is written.
use Rattle.std.proofs.Common.{◌≡◌, ℕ, List, Some, None, slice_get}
use Rattle.esto_mapping.specs.declared.catalogue.Catalogue.{Catalogue}
use Rattle.esto_course.specs.Course.{IsQuiet, Stops, judges}
use Rattle.esto_course.proofs.Asking.{quiet_judges, quiet_then}
use Rattle.esto_course.proofs.Steps.{first_stops, then_goes, then_stops}
use Rattle.esto_list.specs.declared.listing.Listed.{Listed}
use Rattle.esto_query.specs.declared.query.Query.{Query}
use Rattle.esto_views.specs.declared.plan.Plan.{Plan}
use Rattle.esto_status.specs.Answers.{IsWant, IsCaused}
use Rattle.esto_status.specs.declared.status.Status.{Status}
use Rattle.esto_rewriting.specs.Listing.{IsListOf}
use Rattle.esto_rewriting.specs.Planning.{chooses, lists_plan}
use Rattle.esto_rewriting.specs.Explain.{certifies_item, explains_plan, explains_query}
use Rattle.esto_rewriting.specs.Verify.{HasVerdict}

module _ (catalogue : Catalogue) (query : Query) (number : ℕ) (plan : Plan) (items : List Listed) (list : IsListOf catalogue query plan items) where
  -- no item is chosen
  pub choice_stops : {refusal : Status} → Stops IsWant (IsCaused ⊥) (chooses items (Some number)) refusal
      → Stops IsWant (IsCaused ⊥) (explains_plan catalogue query number plan) refusal
  unfolding judges
  choice_stops stops = then_stops (lists_plan catalogue query plan) _ items list (first_stops _ _ stops)

  -- the chosen item has its certificate
  pub chosen_goes : (place : ℕ) → (chooses items (Some number)).goes place → (item : Listed) → slice_get items place ≡ Some item → (text : List ℕ)
      → HasVerdict catalogue query plan item.set text None → (explains_plan catalogue query number plan).goes text
  unfolding judges
  chosen_goes place chosen item there text accepted = then_goes (lists_plan catalogue query plan) _ items text list
      (then_goes (chooses items (Some number)) _ place text chosen
      (then_goes (judges (λ it. slice_get items place ≡ Some it) (λ _. ⊥)) (certifies_item catalogue query plan) item text there accepted))

-- ---- what is asked

-- a certificate is written from the catalogue and the query alone
pub quiet_explains : (number : ℕ) (catalogue : Catalogue) (query : Query) → IsQuiet (explains_query number catalogue query)
quiet_explains number catalogue query = quiet_then _ _ (quiet_judges _ _) (λ plan.
    quiet_then _ _ (quiet_judges _ _) (λ items. quiet_then _ _ (quiet_judges _ _) (λ place.
    quiet_then _ _ (quiet_judges _ _) (λ item. quiet_judges _ _))))
