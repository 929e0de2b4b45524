-- What is opened of fragments over catalogues that say the same agrees.
use Rattle.std.proofs.Common.{◌≡◌, ℕ, suc, List, [], ◌∷◌, Some, refl, sym, ap, subst, ◌∙◌}
use Rattle.std.proofs.lemmas.Option.{same_Some, none-some}
use Rattle.esto_mapping.specs.Catalogues.{AreSame}
use Rattle.esto_mapping.specs.declared.catalogue.Catalogue.{Catalogue}
use Rattle.esto_course.specs.Course.{Course, each, gives, and_then}
use Rattle.esto_course.proofs.Determined.{then_agree, gives_agree, judges_agree}
use Rattle.esto_ports.specs.Files.{Files}
use Rattle.esto_ports.specs.declared.file_fault.FileFault.{FileFault}
use Rattle.esto_status.specs.Calm.{AgreeCalmly}
use Rattle.esto_status.specs.Fetch.{fetches}
use Rattle.esto_run.specs.Fragments.{Stored, IsStoredAt, content_fault, reads_content, opens_stored, opens_fragment, opens_next, opens_fragments}
use Rattle.esto_run.specs.Fragments.{with_content, no_contents}
use Rattle.esto_status.specs.declared.limits.TheConstants.{DATA_LIMIT}
use Rattle.esto_status.specs.declared.status.Status.{Status}
use Rattle.esto_status.specs.declared.status.Status.TheVariants as status
use Rattle.esto_status.proofs.AgreeLemmas.{fetches-agree}
use Rattle.esto_run.proofs.StoreAlikeLemmas.{same_file, same_named, same_fault}

module _ (files : Files) (catalogue other : Catalogue) (alike : AreSame catalogue other) where
  -- the fragment of the number in each of the catalogues
  record AreStoredAt (number : ℕ) (stored other_stored : Stored) : Type 0 where
    here : IsStoredAt catalogue number stored
    there : IsStoredAt other number other_stored

  module _ (number : ℕ) (stored other_stored : Stored) (are : AreStoredAt number stored other_stored) where
    faults_one : (bytes : List ℕ) (fault other_fault : FileFault)
        → content_fault stored bytes ≡ Some fault → content_fault other_stored bytes ≡ Some other_fault
        → fault ≡ other_fault
    faults_one bytes fault other_fault is is_other =
        same_Some fault other_fault (sym is ∙ same_fault catalogue other alike number stored other_stored are.here are.there bytes ∙ is_other)

    read_agree : (bytes : List ℕ) → AgreeCalmly ◌≡◌ (reads_content stored bytes) (reads_content other_stored bytes)
    read_agree bytes = judges_agree _ _ _ _ _ _ (λ value other_value is is_other. refl)
        (λ said other_said caused other_caused is is_other. is.2 ∙ (λ i. status.BadFragment
        (same_named catalogue other alike number stored other_stored are.here are.there i)
        (faults_one bytes is.0 is_other.0 is.1 is_other.1 i)) ∙ sym is_other.2)
        (λ value said caused none is. none-some is.0
        (sym none ∙ same_fault catalogue other alike number stored other_stored are.here are.there bytes ∙ is.1))
        (λ value said caused none is. none-some is.0
        (sym none ∙ sym (same_fault catalogue other alike number stored other_stored are.here are.there bytes) ∙ is.1))

    fetched_agree : AgreeCalmly ◌≡◌ (fetches (Some files) stored.store.file DATA_LIMIT) (fetches (Some files) other_stored.store.file DATA_LIMIT)
    fetched_agree = subst (λ it. AgreeCalmly ◌≡◌ (fetches (Some files) stored.store.file DATA_LIMIT) (fetches (Some files) it DATA_LIMIT))
        (same_file catalogue other alike number stored other_stored are.here are.there)
        (fetches-agree files stored.store.file DATA_LIMIT)

    stored_agree : AgreeCalmly ◌≡◌ (opens_stored (Some files) stored) (opens_stored (Some files) other_stored)
    stored_agree = then_agree _ ◌≡◌ ◌≡◌ _ _ _ _ fetched_agree (λ bytes other_bytes goes same.
        subst (λ it. AgreeCalmly ◌≡◌ (then_read stored bytes) (then_read other_stored it)) same
        (then_agree _ ◌≡◌ ◌≡◌ _ _ _ _ (read_agree bytes) (λ value other_value goes1 same1. gives_agree _ bytes bytes refl)))
      where
        then_read : Stored → List ℕ → Course Status (List ℕ)
        then_read it bytes = and_then (reads_content it bytes) (λ _. gives bytes)

  pub fragment_agree : (number : ℕ) → AgreeCalmly ◌≡◌ (opens_fragment (Some files) catalogue number) (opens_fragment (Some files) other number)
  fragment_agree number = then_agree _ (AreStoredAt number) ◌≡◌ _ _ _ _
      (judges_agree _ _ _ _ _ _ (λ stored other_stored here there. record { here = here; there = there })
      (λ said other_said caused other_caused here there. absurd here) (λ value said caused here there. there) (λ value said caused here there. there))
      (λ stored other_stored goes are. stored_agree number stored other_stored are)

  next_agree : (counter : ℕ) (contents : ℕ → List ℕ) (number : ℕ)
      → AgreeCalmly ◌≡◌ (opens_next (Some files) catalogue counter contents number) (opens_next (Some files) other counter contents number)
  next_agree counter contents number = then_agree _ ◌≡◌ ◌≡◌ _ _ _ _ (fragment_agree number) (λ bytes other_bytes goes same.
      gives_agree _ (with_content contents number bytes) (with_content contents number other_bytes) (ap (with_content contents number) same))

  each_agree : (counter : ℕ) (contents : ℕ → List ℕ) (numbers : List ℕ)
      → AgreeCalmly ◌≡◌ (each (opens_next (Some files) catalogue) counter contents numbers) (each (opens_next (Some files) other) counter contents numbers)
  each_agree counter contents [] = gives_agree _ contents contents refl
  each_agree counter contents (number ∷ rest) = then_agree _ ◌≡◌ ◌≡◌ _ _ _ _ (next_agree counter contents number) (λ next other_next goes same.
      subst (λ (it : ℕ → List ℕ). AgreeCalmly ◌≡◌ (each (opens_next (Some files) catalogue) (suc counter) next rest)
      (each (opens_next (Some files) other) (suc counter) it rest)) same (each_agree (suc counter) next rest))

  pub fragments_agree : (numbers : List ℕ) → AgreeCalmly ◌≡◌ (opens_fragments (Some files) catalogue numbers) (opens_fragments (Some files) other numbers)
  fragments_agree numbers = each_agree 0 no_contents numbers
