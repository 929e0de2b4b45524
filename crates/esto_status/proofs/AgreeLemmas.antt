-- The fetch of a file agrees with itself, and so does a determined course.
use Rattle.std.proofs.Common.{◌≡◌, ◌<◌, ℕ, List, Some, sym, ap, ◌∙◌, arith, length}
use Rattle.std.proofs.lemmas.Option.{none-some}
use Rattle.std.specs.FinMap.{get}
use Rattle.esto_ports.specs.Files.{Files}
use Rattle.esto_status.specs.Answers.{IsCaused}
use Rattle.esto_status.specs.Calm.{AgreeCalmly}
use Rattle.esto_course.proofs.Alike.{once_alike, fewer_alike}
use Rattle.esto_course.specs.Agreement.{IsDetermined}
use Rattle.esto_course.specs.Course.{Course}
use Rattle.esto_ports.specs.Marks.{without_mark}
use Rattle.esto_status.specs.Fetch.{FetchStops, fetches}
use Rattle.esto_status.specs.Fetch.FetchStops.{fails, is_longer}
use Rattle.esto_status.specs.declared.status.Status.{Status}
use Rattle.esto_status.specs.declared.status.Status.TheVariants as status
use Rattle.esto_status.proofs.LeadLemmas.{same-file}
use Rattle.esto_status.proofs.Steps.{read_cause}

module _ (files : Files) (name : List ℕ) (limit : ℕ) where
  -- where no fetch is at a fault, it stops at a longer file
  longer : (said : Status) → IsCaused ⊥ said → FetchStops (Some files) name limit said
      → (file : List ℕ) × (get files name ≡ Some file) × (limit < length file) × (said ≡ status.TooLong name limit)
  longer said caused (fails is) = absurd (read_cause ⊥ said name is caused)
  longer said caused (is_longer file holds less is) = (file, holds, less, is)

  pub fetches-agree : AgreeCalmly ◌≡◌ (fetches (Some files) name limit) (fetches (Some files) name limit)
  unfolding fetches
  fetches-agree = record {
    one = λ bytes other here there. here.3 ∙ ap without_mark (same-file here.0 there.0 (sym here.1 ∙ there.1)) ∙ sym there.3;
    one_stop = λ said other_said caused other_caused here there. (longer said caused here).3 ∙ sym (longer other_said other_caused there).3;
    apart = λ bytes said caused here there. never bytes said caused here there;
    other_apart = λ bytes said caused here there. never bytes said caused here there;
    alike = once_alike (IsCaused ⊥) _ _ _ _ _ _ name (λ bytes lacks goes. none-some goes.0 (sym lacks ∙ goes.1))
        (λ bytes lacks goes. none-some goes.0 (sym lacks ∙ goes.1));
  }
    where
      never : (bytes : List ℕ) (said : Status) → IsCaused ⊥ said → (fetches (Some files) name limit).goes bytes
          → (fetches (Some files) name limit).stops said → ⊥
      never bytes said caused here there =
          let found = longer said caused there in
          let same : here.0 ≡ found.0 = same-file here.0 found.0 (sym here.1 ∙ found.1) in
          omega (arith, here.2, found.2, ap length same)

-- a determined course agrees with itself where no fetch is at a fault
pub calmly : {A : Type 0} (course : Course Status A) → IsDetermined course → AgreeCalmly ◌≡◌ course course
calmly course determined = record {
  one = determined.one;
  one_stop = λ error other because because'. determined.one_stop error other tt tt;
  apart = λ value error because. determined.apart value error tt;
  other_apart = λ value error because. determined.other_apart value error tt;
  alike = fewer_alike (IsCaused ⊥) (λ _. Unit {0}) course course (λ said caused. tt) determined.alike;
}
