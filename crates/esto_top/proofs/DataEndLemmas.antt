-- The files of the datasets that are needed are loaded, or the course stops.
use Rattle.std.proofs.Common.{◌≡◌, ◌⊎◌, inl, inr, ℕ, zero, suc, ◌+◌, ◌<◌, ◌≤◌, List, [], ◌∷◌, ◌++◌, length, Some, None, Option, slice_get}
use Rattle.std.proofs.Common.{Contains, refl, subst, arith}
use Rattle.std.specs.Prelude.{IsSome}
use Rattle.std.proofs.lemmas.Option.{slice_get_within}
use Rattle.std.proofs.lemmas.Bool.{cases_lt}
use Rattle.std.proofs.lemmas.List.Elements.{Contains-append_cases}
use Rattle.esto_mapping.specs.Datasets.{relation_count}
use Rattle.esto_mapping.specs.declared.dataset.Dataset.{Dataset}
use Rattle.esto_course.specs.Course.{Course, judges, demands, gives, and_then, each}
use Rattle.esto_data.specs.Datasets.{AreFactsOfFiles, AreNeeded, HasRelation, IsSourceAt, Names, OneNames, Source, demands_file, demands_files, loads}
use Rattle.esto_data.specs.Datasets.{loads_files, loads_next, opens_dataset, opens_source, reads_data}
use Rattle.esto_status.specs.declared.limits.TheConstants.{DATA_LIMIT}
use Rattle.esto_data.proofs.DatasetLemmas.{AreNeededBelow, needed_all, needed_more, needed_starts, sources_there}
use Rattle.esto_fill.specs.Files.{dataset_fault}
use Rattle.esto_fill.specs.declared.datasets.DatasetBytes.{DatasetBytes}
use Rattle.esto_status.specs.Fetch.{fetches}
use Rattle.esto_status.specs.declared.status.Status.{Status}
use Rattle.esto_status.specs.declared.status.Status.TheVariants.{BadDataset, NoData}
use Rattle.esto_ports.specs.Files.{Files}
use Rattle.esto_ports.specs.declared.file_fault.FileFault.{FileFault}
use Rattle.esto_semantics.specs.Queries.{ConjunctiveQuery}
use Rattle.esto_semantics.specs.declared.fact.Fact.{Fact}
use Rattle.esto_term.specs.declared.term.Term.{Term}
use Rattle.esto_term.proofs.ChoiceLemmas.{Decided, decided_both, decided_in}
use Rattle.esto_term.proofs.ListLemmas.{Contains-nil, Contains-head, Contains-rest, Contains-cases, thing_at}
use Rattle.esto_term.proofs.DecisionLemmas.{at_most}
use Rattle.esto_input_laws.proofs.DatasetLemmas.{AreOf, facts_from}
use Rattle.esto_top.specs.Ends.{Ends, EndsOrLacks}
use Rattle.esto_top.proofs.CourseLemmas.{each_ends, ends_judged, ends_then, fetches_ends, gives_ends, judges_accepts, judges_refuses}
use Rattle.esto_top.proofs.ReasoningEndLemmas.{demands_ends}

-- ---- which datasets are needed

decided_less : (x y : ℕ) → Decided (x < y)
decided_less x y = elim (cases_lt x y) [ inl less ↦ inl less | inr not ↦ inr (λ less. omega (arith, less, not)) ]

pub decided_names : (body : List (Fact Term)) (dataset : Dataset) → Decided (Names body dataset)
decided_names body dataset = decided_in (λ (atom : Fact Term). HasRelation dataset atom.relation) (λ atom.
    decided_both (at_most dataset.base atom.relation) (decided_less atom.relation (dataset.base + relation_count dataset.model))) body

pub decided_one_names : (queries : List ConjunctiveQuery) (dataset : Dataset) → Decided (OneNames queries dataset)
decided_one_names queries dataset = decided_in (λ (query : ConjunctiveQuery). Names query.body dataset) (λ query. decided_names query.body dataset) queries

module _ (datasets : List Dataset) (Needs : Dataset → Type 0) (decide : (dataset : Dataset) → Decided (Needs dataset)) where
  needed_below : (count : ℕ) → count ≤ length datasets → (numbers : List ℕ) × AreNeededBelow datasets Needs count numbers
  needed_below zero within = ([], needed_starts datasets Needs [] refl)
  needed_below (suc count) within =
      let so_far = needed_below count (omega (arith, within)) in
      let at = thing_at datasets count (omega (arith, within)) in
      let one : count + 1 ≡ suc count = omega arith in
      let more = by so_far.0 at.0 at.1 so_far.1 (decide at.0) in
      (more.0, subst (λ bound. AreNeededBelow datasets Needs bound more.0) one more.1)
    where
      by : (old : List ℕ) (dataset : Dataset) → slice_get datasets count ≡ Some dataset → AreNeededBelow datasets Needs count old → Decided (Needs dataset)
          → (new : List ℕ) × AreNeededBelow datasets Needs (count + 1) new
      by old dataset at are (inl needs) =
          (old ++ count ∷ [], needed_more datasets Needs count dataset at old (old ++ count ∷ []) are (inl (needs, refl)))
      by old dataset at are (inr not) = (old, needed_more datasets Needs count dataset at old old are (inr (not, refl)))

  needed_exist : (numbers : List ℕ) × AreNeeded datasets Needs numbers
  needed_exist =
      let all = needed_below (length datasets) (omega arith) in
      (all.0, needed_all datasets Needs (length datasets) all.0 all.1 (omega arith))

-- ---- their files

decided_some : {A : Type 0} (option : Option A) → Decided (IsSome option)
decided_some None = inr (λ some. absurd (cc))
decided_some (Some thing) = inl refl

data_ends : {lack : Type 0} (dataset : Dataset) (bytes : List ℕ) → Ends lack (reads_data dataset bytes)
data_ends {lack} dataset bytes = by (dataset_fault dataset bytes) refl
  where
    Refuses : Status → Type 0
    Refuses refusal = (fault : FileFault) × (dataset_fault dataset bytes ≡ Some fault) × (refusal ≡ BadDataset dataset.name fault)

    by : (found : Option FileFault) → dataset_fault dataset bytes ≡ found → Ends lack (reads_data dataset bytes)
    by None is = judges_accepts (λ _. dataset_fault dataset bytes ≡ None) Refuses tt is
    by (Some fault) is =
        judges_refuses (λ _. dataset_fault dataset bytes ≡ None) Refuses (BadDataset dataset.name fault) (record { cause = tt }) (fault, is, refl)

module _ (files : Files) (datasets : List Dataset) where
  demands_end : (numbers : List ℕ) → ((number : ℕ) → Contains numbers number → (dataset : Dataset) × (slice_get datasets number ≡ Some dataset))
      → EndsOrLacks (demands_files datasets numbers)
  demands_end numbers there = each_ends (demands_file datasets) numbers 0 tt (λ place given number inside.
      ends_judged (λ dataset. slice_get datasets number ≡ Some dataset) (λ _. ⊥) (λ dataset. demands (IsSome dataset.file) (NoData dataset.name))
      (there number inside) (λ dataset at. demands_ends (IsSome dataset.file) (NoData dataset.name) (record { cause = tt }) (decided_some dataset.file)))

  dataset_ends : (number : ℕ) → (source : Source) × IsSourceAt datasets number source → EndsOrLacks (opens_dataset (Some files) datasets number)
  dataset_ends number found =
      ends_judged (IsSourceAt datasets number) (λ _. ⊥) (opens_source (Some files)) found (λ source at.
      ends_then (fetches (Some files) source.file DATA_LIMIT) (λ bytes. and_then (reads_data source.dataset bytes) (λ _. gives bytes))
      (fetches_ends files source.file DATA_LIMIT)
      (λ bytes _. ends_then (reads_data source.dataset bytes) (λ _. gives bytes) (data_ends source.dataset bytes) (λ _ _. gives_ends bytes)))

  files_end : (numbers : List ℕ) → ((number : ℕ) → Contains numbers number → (source : Source) × IsSourceAt datasets number source)
      → EndsOrLacks (loads_files (Some files) datasets numbers)
  files_end numbers there = each_ends (loads_next (Some files) datasets) numbers 0 [] (λ place so_far number inside.
      ends_then (opens_dataset (Some files) datasets number) (λ bytes. gives (so_far ++ record { dataset = number; bytes = bytes } ∷ []))
      (dataset_ends number (there number inside)) (λ bytes _. gives_ends (so_far ++ record { dataset = number; bytes = bytes } ∷ [])))

  -- each of the files that were opened is that of one of the numbers
  entries_of : (numbers : List ℕ) (counter : ℕ) (so_far entries : List DatasetBytes)
      → (each (loads_next (Some files) datasets) counter so_far numbers).goes entries → (entry : DatasetBytes) → Contains entries entry
      → Contains so_far entry ⊎ Contains numbers entry.dataset
  unfolding and_then gives
  entries_of [] counter so_far entries is entry inside = inl (subst (λ them. Contains them entry) is inside)
  entries_of (number ∷ rest) counter so_far entries (next, (bytes, opens, next_is), more) entry inside =
      elim (entries_of rest (suc counter) next entries more entry inside) [
        | inl early ↦ elim (Contains-append_cases so_far (record { dataset = number; bytes = bytes } ∷ []) entry
            (subst (λ them. Contains them entry) next_is early)) [
              | inl before ↦ inl before
              | inr own ↦ elim (Contains-cases (record { dataset = number; bytes = bytes }) [] entry own) [
                | inl is ↦ inr (subst (λ (it : DatasetBytes). Contains (number ∷ rest) it.dataset) is (Contains-head number rest))
                | inr none ↦ absurd (Contains-nil entry none)
              ]
            ]
        | inr later ↦ inr (Contains-rest number rest entry.dataset later)
      ]

  -- so each is that of a dataset
  are_of : (entries : List DatasetBytes) → ((entry : DatasetBytes) → Contains entries entry → entry.dataset < length datasets) → AreOf datasets entries
  are_of [] each = tt
  are_of (entry ∷ entries) each =
      (each entry (Contains-head entry entries), are_of entries (λ other inside. each other (Contains-rest entry entries other inside)))

  -- ---- all together

  pub loads_end : (Needs : Dataset → Type 0) → ((dataset : Dataset) → Decided (Needs dataset)) → EndsOrLacks (loads (Some files) datasets Needs)
  loads_end Needs decide =
      ends_judged (AreNeeded datasets Needs) (λ _. ⊥)
      (λ numbers. and_then (demands_files datasets numbers) (λ _. and_then (loads_files (Some files) datasets numbers) facts_for))
      (needed_exist datasets Needs decide) (λ numbers needed.
      ends_then (demands_files datasets numbers) (λ _. and_then (loads_files (Some files) datasets numbers) facts_for)
      (demands_end numbers (λ number inside. let found = (needed.exact number).0 inside in (found.0, found.1))) (λ _ have.
      ends_then (loads_files (Some files) datasets numbers) facts_for
      (files_end numbers (sources_there datasets 0 numbers have)) (λ contents opened. facts_end numbers needed contents opened)))
    where
      facts_for : List DatasetBytes → Course Status (List (Fact Term))
      facts_for contents = judges (AreFactsOfFiles datasets contents) (λ _. ⊥)

      facts_end : (numbers : List ℕ) → AreNeeded datasets Needs numbers → (contents : List DatasetBytes)
          → (loads_files (Some files) datasets numbers).goes contents → EndsOrLacks (judges (AreFactsOfFiles datasets contents) (λ _. ⊥))
      facts_end numbers needed contents opened =
          let all = facts_from datasets 0 contents (are_of contents (λ entry inside.
          elim (entries_of numbers 0 [] contents opened entry inside) [
            | inl none ↦ absurd (Contains-nil entry none)
            | inr there ↦ let found = (needed.exact entry.dataset).0 there in slice_get_within datasets entry.dataset found.0 found.1
          ])) in
          judges_accepts (AreFactsOfFiles datasets contents) (λ _. ⊥) all.0 (record { next = all.1; are = all.2; flat = all.3 })
