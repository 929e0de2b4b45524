-- The facts of the datasets that are needed agree with themselves.
use Rattle.std.proofs.Common.{◌≡◌, ◌<◌, ℕ, suc, List, [], ◌∷◌, ◌++◌, Option, Some, refl, sym, ap, subst, ◌∙◌, arith}
use Rattle.std.specs.Ordering.{nat_cmp}
use Rattle.std.specs.declared.cmp.Ordering.TheVariants.{Less}
use Rattle.std.proofs.lemmas.Bool.Decides.{nat_tests}
use Rattle.std.proofs.lemmas.Cmp.{nat_cmp_total}
use Rattle.std.proofs.lemmas.Option.{same_Some, none-some}
use Rattle.esto_mapping.specs.declared.dataset.Dataset.{Dataset}
use Rattle.esto_course.specs.Agreement.{IsDetermined}
use Rattle.esto_course.specs.Course.{Course, each, gives, judges, and_then}
use Rattle.esto_course.proofs.Determined.{then_agree, gives_agree, judges_agree, judges_determined, then_determined, demands_determined, each_determined}
use Rattle.esto_fill.specs.Laws.{FactsAreOne}
use Rattle.esto_fill.specs.declared.datasets.DatasetBytes.{DatasetBytes}
use Rattle.esto_ports.specs.Files.{Files}
use Rattle.esto_semantics.specs.Maps.{AreFlat}
use Rattle.esto_semantics.specs.declared.fact.Fact.{Fact}
use Rattle.esto_term.proofs.ChoiceLemmas.{one_list}
use Rattle.esto_term.specs.declared.term.Term.{Term}
use Rattle.esto_status.specs.Calm.{AgreeCalmly}
use Rattle.esto_status.specs.declared.status.Status.{Status}
use Rattle.esto_status.specs.declared.status.Status.TheVariants as status
use Rattle.esto_status.proofs.AgreeLemmas.{fetches-agree, calmly}
use Rattle.esto_data.specs.Datasets.{AreFactsOfFiles, AreNeeded, IsSourceAt, Source, demands_file, demands_files, loads, loads_files, loads_next, opens_dataset}
use Rattle.esto_data.specs.Datasets.{opens_source, reads_data}
use Rattle.esto_status.specs.declared.limits.TheConstants.{DATA_LIMIT}

-- ---- the datasets that are needed

less_is : (number other : ℕ) → number < other → nat_cmp number other ≡ Less
less_is number other less = grind (arith, nat_tests)

pub needed_one : (datasets : List Dataset) (Needs : Dataset → Type 0) (numbers others : List ℕ) → AreNeeded datasets Needs numbers
    → AreNeeded datasets Needs others → numbers ≡ others
needed_one datasets Needs numbers others here there =
    one_list nat_cmp nat_cmp_total numbers others (λ i j d less within. less_is _ _ (here.rising i j d less within))
    (λ i j d less within. less_is _ _ (there.rising i j d less within))
    (λ number. (
      (λ inside. (there.exact number).1 ((here.exact number).0 inside)),
      (λ inside. (here.exact number).1 ((there.exact number).0 inside)),
    ))

needed_agree : (datasets : List Dataset) (Needs : Dataset → Type 0)
    → AgreeCalmly ◌≡◌ (judges (AreNeeded datasets Needs) (λ _. ⊥)) (judges (AreNeeded datasets Needs) (λ _. ⊥))
needed_agree datasets Needs = judges_agree _ _ _ _ _ _ (needed_one datasets Needs)
    (λ said other caused other_caused here there. absurd here) (λ value said caused here there. there) (λ value said caused here there. there)

demanded_one : (datasets : List Dataset) (place : ℕ) (given : Unit {0}) (number : ℕ) → IsDetermined (demands_file datasets place given number)
demanded_one datasets place given number =
    then_determined ◌≡◌ _ _
    (judges_determined ◌≡◌ _ _ (λ dataset other here there. same_Some dataset other (sym here ∙ there)) (λ said other here there. absurd here)
    (λ dataset said here there. there))
    (λ dataset at_number. demands_determined _ _)

demanded_agree : (datasets : List Dataset) (numbers : List ℕ) → AgreeCalmly ◌≡◌ (demands_files datasets numbers) (demands_files datasets numbers)
demanded_agree datasets numbers = calmly _ (each_determined (demands_file datasets) (demanded_one datasets) 0 tt numbers)

-- ---- their files

one_source : (datasets : List Dataset) (number : ℕ) (source other : Source) → IsSourceAt datasets number source → IsSourceAt datasets number other
    → source ≡ other
one_source datasets number source other here there =
    let dataset : source.dataset ≡ other.dataset = same_Some source.dataset other.dataset (sym here.there ∙ there.there) in
    let file : source.file ≡ other.file =
    same_Some source.file other.file (sym here.file_is ∙ ap (λ (it : Dataset). it.file) dataset ∙ there.file_is) in
    λ i. record { dataset = dataset i; file = file i }

module _ (files : Files) (datasets : List Dataset) where
  data_agree : (dataset : Dataset) (bytes : List ℕ) → AgreeCalmly ◌≡◌ (reads_data dataset bytes) (reads_data dataset bytes)
  data_agree dataset bytes = judges_agree _ _ _ _ _ _ (λ value other here there. refl)
      (λ said other caused other_caused here there.
      here.2 ∙ ap (status.BadDataset dataset.name) (same_Some here.0 there.0 (sym here.1 ∙ there.1)) ∙ sym there.2)
      (λ value said caused none found. none-some found.0 (sym none ∙ found.1)) (λ value said caused none found. none-some found.0 (sym none ∙ found.1))

  source_agree : (source : Source) → AgreeCalmly ◌≡◌ (opens_source (Some files) source) (opens_source (Some files) source)
  source_agree source = then_agree _ ◌≡◌ ◌≡◌ _ _ _ _ (fetches-agree files source.file DATA_LIMIT) (λ bytes other_bytes goes same.
      subst (λ (it : List ℕ). AgreeCalmly ◌≡◌ (then_read bytes) (then_read it)) same
      (then_agree _ ◌≡◌ ◌≡◌ _ _ _ _ (data_agree source.dataset bytes) (λ value other_value goes1 same1. gives_agree _ bytes bytes refl)))
    where
      then_read : List ℕ → Course Status (List ℕ)
      then_read bytes = and_then (reads_data source.dataset bytes) (λ _. gives bytes)

  pub dataset_agree : (number : ℕ) → AgreeCalmly ◌≡◌ (opens_dataset (Some files) datasets number) (opens_dataset (Some files) datasets number)
  dataset_agree number = then_agree _ ◌≡◌ ◌≡◌ _ _ _ _
      (judges_agree _ _ _ _ _ _ (one_source datasets number) (λ said other caused other_caused here there. absurd here)
      (λ value said caused here there. there) (λ value said caused here there. there))
      (λ source other goes same. subst (λ (it : Source). AgreeCalmly ◌≡◌ (opens_source (Some files) source) (opens_source (Some files) it)) same
      (source_agree source))

  next_agree : (counter : ℕ) (so_far : List DatasetBytes) (number : ℕ)
      → AgreeCalmly ◌≡◌ (loads_next (Some files) datasets counter so_far number) (loads_next (Some files) datasets counter so_far number)
  next_agree counter so_far number = then_agree _ ◌≡◌ ◌≡◌ _ _ _ _ (dataset_agree number) (λ bytes other_bytes goes same.
      gives_agree _ (so_far ++ record { dataset = number; bytes = bytes } ∷ []) (so_far ++ record { dataset = number; bytes = other_bytes } ∷ [])
      (ap (λ (it : List ℕ). so_far ++ record { dataset = number; bytes = it } ∷ []) same))

  loaded_agree : (counter : ℕ) (so_far : List DatasetBytes) (numbers : List ℕ)
      → AgreeCalmly ◌≡◌ (each (loads_next (Some files) datasets) counter so_far numbers) (each (loads_next (Some files) datasets) counter so_far numbers)
  loaded_agree counter so_far [] = gives_agree _ so_far so_far refl
  loaded_agree counter so_far (number ∷ rest) = then_agree _ ◌≡◌ ◌≡◌ _ _ _ _ (next_agree counter so_far number) (λ next other_next goes same.
      subst (λ (it : List DatasetBytes). AgreeCalmly ◌≡◌ (each (loads_next (Some files) datasets) (suc counter) next rest)
      (each (loads_next (Some files) datasets) (suc counter) it rest)) same (loaded_agree (suc counter) next rest))

  module _ (one_facts : FactsAreOne) (Needs : Dataset → Type 0) where
    facts_agree : (contents : List DatasetBytes)
        → AgreeCalmly ◌≡◌ (judges (AreFactsOfFiles datasets contents) (λ _. ⊥)) (judges (AreFactsOfFiles datasets contents) (λ _. ⊥))
    facts_agree contents = judges_agree _ _ _ _ _ _
        (λ facts others here there. (one_facts datasets 0 contents facts others here.next there.next here.are there.are).0)
        (λ said other caused other_caused here there. absurd here) (λ value said caused here there. there) (λ value said caused here there. there)

    pub loads_agree : AgreeCalmly ◌≡◌ (loads (Some files) datasets Needs) (loads (Some files) datasets Needs)
    loads_agree =
        then_agree _ ◌≡◌ ◌≡◌ _ _ _ _ (needed_agree datasets Needs) (λ numbers others goes same.
        subst (λ (it : List ℕ). AgreeCalmly ◌≡◌ (from numbers) (from it)) same
        (then_agree _ ◌≡◌ ◌≡◌ _ _ _ _ (demanded_agree datasets numbers) (λ value other goes1 same1.
        then_agree _ ◌≡◌ ◌≡◌ _ _ _ _ (loaded_agree 0 [] numbers) (λ contents other_contents goes2 same2.
        subst (λ (it : List DatasetBytes). AgreeCalmly ◌≡◌ (judges (AreFactsOfFiles datasets contents) (λ _. ⊥))
        (judges (AreFactsOfFiles datasets it) (λ _. ⊥))) same2 (facts_agree contents)))))
      where
        from : List ℕ → Course Status (List (Fact Term))
        from numbers = and_then (demands_files datasets numbers) (λ _. and_then (loads_files (Some files) datasets numbers) (λ contents.
            judges (AreFactsOfFiles datasets contents) (λ _. ⊥)))

-- the facts that are loaded are over constants and plain terms
pub loads_flat : (files : Option Files) (datasets : List Dataset) (Needs : Dataset → Type 0) (facts : List (Fact Term))
    → (loads files datasets Needs).goes facts → AreFlat facts
unfolding and_then judges
loads_flat files datasets Needs facts (numbers, needed, (given, have, (contents, opened, are))) = are.flat
