-- Rows of codes that stand for what they stood for, and what is judged over them.
use Rattle.std.proofs.Common.{◌≡◌, List, Result, Ok, refl}
use Rattle.esto_mapping.specs.declared.catalogue.Catalogue.{Catalogue}
use Rattle.esto_mapping.specs.declared.dataset.Dataset.{Dataset}
use Rattle.esto_constraint.specs.Constraints.{rules_of}
use Rattle.esto_course.specs.Course.{judges}
use Rattle.esto_data.specs.CodedParts.{Stays}
use Rattle.esto_data.specs.Coding.{IsCoded, IsCodedOf}
use Rattle.esto_fill.specs.Trials.{IsEnoughFor, IsTrialOf}
use Rattle.esto_data.specs.declared.coded_data.CodedData.{CodedData}
use Rattle.esto_fill.specs.declared.datasets.DatasetBytes.{DatasetBytes}
use Rattle.esto_fill.specs.declared.loaded.Loaded.{Loaded}
use Rattle.esto_fill.specs.declared.trial.Trial.{Trial}
use Rattle.esto_fill.specs.declared.wanted.Wanted.{Wanted}
use Rattle.esto_semantics.specs.declared.fact.Fact.{Fact}
use Rattle.esto_term.specs.declared.term.Term.{Term}
use Rattle.esto_status.specs.Answers.{Answers}
use Rattle.esto_status.specs.declared.status.Status.{Status}
use Rattle.esto_data.specs.Audit.{AreFactsToAudit, HoldsAudit, judges_views}
use Rattle.esto_data.specs.Datasets.{HoldsFiles, HoldsLeft}
use Rattle.esto_data.proofs.WantedLemmas.{enough_left, judged_all}

-- ---- rows of codes that stay

module _ (old new : CodedData) (stays : Stays old new) where
  pub still_coded : IsCoded old → IsCoded new
  still_coded (loaded, stand) = (loaded, stays.kept loaded stand)

  left_stays : (datasets : List Dataset) (wanted : Wanted) (facts : List (Fact Term)) → HoldsLeft datasets wanted facts old
      → HoldsLeft datasets wanted facts new
  left_stays datasets wanted facts left =
      record { loaded = left.loaded; stand = stays.kept left.loaded left.stand; leaves = left.leaves; lawful = left.lawful }

  held_stays : (datasets : List Dataset) (wanted : Wanted) (facts : List (Fact Term)) (files : List DatasetBytes) → HoldsFiles datasets wanted facts files old
      → HoldsFiles datasets wanted facts files new
  held_stays datasets wanted facts files held =
      record { readable = held.readable; are = held.are; left = left_stays datasets wanted facts held.left }

  pub audit_stays : (catalogue : Catalogue) (wanted : Wanted) (files : List DatasetBytes) (facts : List (Fact Term))
      → HoldsAudit catalogue wanted files facts old → HoldsAudit catalogue wanted files facts new
  audit_stays catalogue wanted files facts holds =
      record { held = held_stays catalogue.datasets wanted facts files holds.held; texts = holds.texts }

  -- what is left is what was left
  pub audit_left : (catalogue : Catalogue) (wanted : Wanted) (files : List DatasetBytes) (facts : List (Fact Term))
      (holds : HoldsAudit catalogue wanted files facts old)
      → holds.held.left.loaded ≡ (audit_stays catalogue wanted files facts holds).held.left.loaded
  unfolding audit_stays held_stays left_stays
  audit_left catalogue wanted files facts holds = refl

-- ---- what is judged

pub to_audit : (catalogue : Catalogue) (wanted : Wanted) (files : List DatasetBytes) (facts : List (Fact Term)) (coded : CodedData)
    → HoldsAudit catalogue wanted files facts coded → AreFactsToAudit catalogue files facts
to_audit catalogue wanted files facts coded holds =
    record { readable = holds.held.readable; are = holds.held.are; lawful = holds.held.left.lawful }

module _ (catalogue : Catalogue) (trial : Trial) (tries : IsTrialOf catalogue trial) (facts : List (Fact Term)) where
  -- what is left of the facts is enough for the trial
  pub left_enough : (coded : CodedData) (left : HoldsLeft catalogue.datasets trial.wanted facts coded)
      → IsEnoughFor catalogue (rules_of trial.laws) facts left.loaded.facts
  left_enough coded left = enough_left catalogue trial tries facts left.loaded.facts left.leaves left.lawful

  module _ (files : List DatasetBytes) (coded : CodedData) (held : HoldsFiles catalogue.datasets trial.wanted facts files coded) where
    -- the views are judged over all facts as they are over what is left
    pub facts_judged : (result : Result (Unit {0}) Status)
        → ((loaded : Loaded) → IsCodedOf loaded coded → Answers (judges_views catalogue loaded.facts) ⊥ result)
        → Answers (judges_views catalogue facts) ⊥ result
    facts_judged result views =
        judged_all catalogue (rules_of trial.laws) facts held.left.loaded.facts (left_enough coded held.left) result
        (views held.left.loaded held.left.stand)

    pub audit_judged : (new : CodedData) → Stays coded new → Answers (judges_views catalogue facts) ⊥ (Ok tt)
        → HoldsAudit catalogue trial.wanted files facts new
    unfolding judges
    audit_judged new stays texts =
        record { held = held_stays coded new stays catalogue.datasets trial.wanted facts files held; texts = texts }
