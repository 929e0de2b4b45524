-- What `verify` asks of the shelf.
use Rattle.std.proofs.Common.{ℕ, Bool, List, Option, Result, Ok, Err}
use Rattle.esto_mapping.specs.declared.catalogue.Catalogue.{Catalogue}
use Rattle.esto_course.specs.Course.{Names}
use Rattle.esto_course.proofs.Asking.{quiet_judges}
use Rattle.esto_ports.specs.Files.{Files}
use Rattle.esto_query.specs.declared.query.Query.{Query}
use Rattle.esto_views.specs.declared.plan.Plan.{Plan}
use Rattle.esto_status.specs.Answers.{Answers}
use Rattle.esto_status.specs.Asked.{AsksIn}
use Rattle.esto_status.specs.declared.status.Status.{Status}
use Rattle.esto_status.proofs.AskedSteps.{exit_asks, later_asks, quiet_asks}
use Rattle.esto_rewriting.specs.Planning.{plans_query}
use Rattle.esto_rewriting.specs.Verify.{names_set, verifies_query, verifies_set}

-- ---- the query

module _ (files : Option Files) (numbers file : List ℕ) (catalogue : Catalogue) (query : Query) (plan : Plan)
    (planned : (plans_query catalogue query).goes plan) where
  plan_asks : (told : Option Names) → AsksIn told told (plans_query catalogue query) (Ok plan)
  plan_asks told = quiet_asks (plans_query catalogue query) told (Ok plan) (quiet_judges _ _) planned

  -- the numbers name no set
  pub set_exit_asks : (told : Option Names) (refusal : Status) → Answers (names_set plan numbers) ⊥ (Err refusal)
      → AsksIn told told (verifies_query files numbers file catalogue query) (Err refusal)
  set_exit_asks told refusal answer =
      later_asks _ _ (plan_asks told) (exit_asks _ _ (quiet_asks (names_set plan numbers) told (Err refusal) (quiet_judges _ _) answer))

  -- they do, and the certificate is verified
  pub set_asks : {old new : Option Names} (set : List Bool) → (names_set plan numbers).goes set → (result : Result (List ℕ) Status)
      → AsksIn old new (verifies_set files catalogue query plan file set) result
      → AsksIn old new (verifies_query files numbers file catalogue query) result
  set_asks {old = old} set named result asked =
      later_asks _ _ (plan_asks old) (later_asks _ _ (quiet_asks (names_set plan numbers) old (Ok set) (quiet_judges _ _) named) asked)
