-- The files of the datasets that are needed, each opened, and their facts.
use Rattle.std.proofs.Common.{◌≡◌, ℕ, suc, List, [], ◌∷◌, ◌++◌, map, slice_get, Contains, Option, Some, refl, sym, ap, subst, ◌∙◌, append_assoc, append-nil}
use Rattle.std.proofs.Common.{inl, inr}
use Rattle.std.specs.Prelude.{AllPairs, IsSome}
use Rattle.std.proofs.Common.{◌<◌, get_or, length, arith}
use Rattle.std.proofs.lemmas.List.{get_or-map, length-map}
use Rattle.std.proofs.lemmas.Option.{same_Some, none-some}
use Rattle.esto_mapping.specs.declared.dataset.Dataset.{Dataset}
use Rattle.esto_course.specs.Course.{judges, demands, gives, and_then, each}
use Rattle.esto_fill.specs.Files.{AreApart, AreFactsFrom}
use Rattle.esto_fill.specs.Laws.{FactsAreOne}
use Rattle.esto_fill.specs.declared.datasets.DatasetBytes.{DatasetBytes}
use Rattle.esto_ports.specs.Files.{Files}
use Rattle.esto_semantics.specs.declared.fact.Fact.{Fact}
use Rattle.esto_term.proofs.ListLemmas.{Contains-cases, Contains-head, Contains-map, Contains-nil, Contains-rest}
use Rattle.esto_term.specs.declared.term.Term.{Term}
use Rattle.esto_status.specs.Answers.{IsCaused}
use Rattle.esto_status.specs.Calm.{Leads}
use Rattle.esto_status.specs.Fetch.{fetches}
use Rattle.esto_status.specs.declared.status.Status.{Status}
use Rattle.esto_status.proofs.LeadLemmas.{then-leads, leads-more, gives-leads, judges-leads, fetches-leads}
use Rattle.esto_data.specs.Datasets.{AreFactsOfFiles, AreNeeded, IsSourceAt, Source, demands_file, loads, loads_files, loads_next, opens_dataset, reads_data}
use Rattle.esto_data.specs.Exact.{HoldFacts, IsReadableDataset, files_of}
use Rattle.esto_status.specs.declared.limits.TheConstants.{DATA_LIMIT}
use Rattle.esto_data.proofs.LoadLemmas.{needed_one}

-- ---- what was opened

-- no two entries are of one dataset where the numbers rise
pub entries_apart : (numbers : List ℕ) (entries : List DatasetBytes) → map (λ (entry : DatasetBytes). entry.dataset) entries ≡ numbers → AllPairs ◌<◌ numbers
    → AreApart entries
entries_apart numbers entries is rising i j d less within same =
    let within_numbers : j < length numbers = omega (arith, within, length-map entries (λ (entry : DatasetBytes). entry.dataset), ap length is) in
    let below = rising i j d.dataset less within_numbers in
    let first : get_or numbers i d.dataset ≡ (get_or entries i d).dataset =
    ap (λ (it : List ℕ). get_or it i d.dataset) (sym is)
    ∙ get_or-map (λ (entry : DatasetBytes). entry.dataset) entries i d d.dataset (omega (arith, less, within)) in
    let second : get_or numbers j d.dataset ≡ (get_or entries j d).dataset =
    ap (λ (it : List ℕ). get_or it j d.dataset) (sym is) ∙ get_or-map (λ (entry : DatasetBytes). entry.dataset) entries j d d.dataset within in
    omega (arith, below, first, second, same)

-- each of the files is that of the dataset of one of the numbers, in order, and was opened
pub record AreOpenedFiles (files : Option Files) (datasets : List Dataset) (numbers : List ℕ) (entries : List DatasetBytes) : Type 0 where
  pub numbers_are : map (λ (entry : DatasetBytes). entry.dataset) entries ≡ numbers
  pub opened : (entry : DatasetBytes) → Contains entries entry → (opens_dataset files datasets entry.dataset).goes entry.bytes

-- the facts are those of the files of the datasets that are needed
pub record AreLoaded (files : Option Files) (datasets : List Dataset) (Needs : Dataset → Type 0) (facts : List (Fact Term)) : Type 0 where
  pub numbers : List ℕ
  pub needed : AreNeeded datasets Needs numbers
  pub entries : List DatasetBytes
  pub opened : AreOpenedFiles files datasets numbers entries
  pub facts_are : AreFactsOfFiles datasets entries facts

module _ (files : Option Files) (datasets : List Dataset) where
  one_more : (number : ℕ) (bytes : List ℕ) (rest : List ℕ) (entries : List DatasetBytes) → (opens_dataset files datasets number).goes bytes
      → AreOpenedFiles files datasets rest entries
      → AreOpenedFiles files datasets (number ∷ rest) (record { dataset = number; bytes = bytes } ∷ entries)
  one_more number bytes rest entries opens more = record {
    numbers_are = ap (λ (it : List ℕ). number ∷ it) more.numbers_are;
    opened = λ entry inside. elim (Contains-cases _ entries entry inside) [
      | inl same ↦ subst (λ (it : DatasetBytes). (opens_dataset files datasets it.dataset).goes it.bytes) same opens
      | inr later ↦ more.opened entry later
    ];
  }

  pub opened_from : (numbers : List ℕ) (counter : ℕ) (so_far entries : List DatasetBytes)
      → (each (loads_next files datasets) counter so_far numbers).goes entries
      → (own : List DatasetBytes) × (entries ≡ so_far ++ own) × AreOpenedFiles files datasets numbers own
  unfolding and_then gives
  opened_from [] counter so_far entries is =
      ([], is ∙ sym (append-nil so_far), record { numbers_are = refl; opened = λ entry inside. absurd (Contains-nil entry inside) })
  opened_from (number ∷ rest) counter so_far entries (next, (bytes, opens, next_is), more) =
      let found = opened_from rest (suc counter) next entries more in
      let entry : DatasetBytes = record { dataset = number; bytes = bytes } in (
        entry ∷ found.0,
        found.1 ∙ ap (λ (it : List DatasetBytes). it ++ found.0) next_is ∙ append_assoc so_far (entry ∷ []) found.0,
        one_more number bytes rest found.0 opens found.2,
      )

  -- no two of the files that are opened are of one dataset where the numbers rise
  pub loaded_apart : (numbers : List ℕ) (entries : List DatasetBytes) → (loads_files files datasets numbers).goes entries → AllPairs ◌<◌ numbers
      → AreApart entries
  loaded_apart numbers entries goes rising =
      let found = opened_from numbers 0 [] entries goes in
      entries_apart numbers entries (ap (map (λ (entry : DatasetBytes). entry.dataset)) found.1 ∙ found.2.numbers_are) rising

  pub are_loaded : (Needs : Dataset → Type 0) (facts : List (Fact Term)) → (loads files datasets Needs).goes facts → AreLoaded files datasets Needs facts
  unfolding and_then judges
  are_loaded Needs facts (numbers, needed, (given, have, (entries, opened, are))) =
      let found = opened_from numbers 0 [] entries opened in record {
        numbers = numbers;
        needed = needed;
        entries = entries;
        opened = subst (AreOpenedFiles files datasets numbers) (sym found.1) found.2;
        facts_are = are;
      }

-- ---- where nothing is wrong

-- the dataset of the number has a file, and it can be opened
pub record CanOpen (files : Option Files) (datasets : List Dataset) (number : ℕ) : Type 0 where
  pub dataset : Dataset
  pub there : slice_get datasets number ≡ Some dataset
  pub file : IsSome dataset.file
  pub never : (said : Status) → IsCaused ⊥ said → (opens_dataset files datasets number).stops said → ⊥

module _ (files : Option Files) (datasets : List Dataset) where
  never_demanded : (numbers : List ℕ) (counter : ℕ) (given : Unit {0}) → ((number : ℕ) → Contains numbers number → CanOpen files datasets number)
      → (said : Status) → (each (demands_file datasets) counter given numbers).stops said → ⊥
  unfolding and_then judges demands gives
  never_demanded [] counter given can said stops = stops
  never_demanded (number ∷ rest) counter given can said stops =
      let here = can number (Contains-head number rest) in
      elim stops [
        | inl at_once ↦ elim at_once [
          | inl none ↦ none
          | inr (dataset, at, (without, is)) ↦
              without (subst (λ (it : Dataset). IsSome it.file) (same_Some here.dataset dataset (sym here.there ∙ at)) here.file)
        ]
        | inr (next, goes, more) ↦ never_demanded rest (suc counter) next (λ other inside. can other (Contains-rest number rest other inside)) said more
      ]

  never_opened : (numbers : List ℕ) (counter : ℕ) (so_far : List DatasetBytes) → ((number : ℕ) → Contains numbers number → CanOpen files datasets number)
      → (said : Status) → IsCaused ⊥ said → (each (loads_next files datasets) counter so_far numbers).stops said → ⊥
  unfolding and_then gives
  never_opened [] counter so_far can said caused stops = stops
  never_opened (number ∷ rest) counter so_far can said caused stops =
      elim stops [
        | inl at_once ↦ elim at_once [
          | inl early ↦ (can number (Contains-head number rest)).never said caused early
          | inr (bytes, opens, none) ↦ none
        ]
        | inr (next, goes, more) ↦ never_opened rest (suc counter) next (λ other inside. can other (Contains-rest number rest other inside)) said caused more
      ]

  -- where each dataset that is needed can be opened, the course goes on
  pub loads_never : (Needs : Dataset → Type 0)
      → ((number : ℕ) (dataset : Dataset) → slice_get datasets number ≡ Some dataset → Needs dataset → CanOpen files datasets number)
      → (said : Status) → IsCaused ⊥ said → (loads files datasets Needs).stops said → ⊥
  unfolding and_then judges
  loads_never Needs can said caused stops = elim stops [
    | inl none ↦ none
    | inr (numbers, needed, more) ↦
        let each_can : (number : ℕ) → Contains numbers number → CanOpen files datasets number =
        (λ number inside. let found = (needed.exact number).0 inside in can number found.0 found.1 found.2) in
        elim more [
          | inl without ↦ never_demanded numbers 0 tt each_can said without
          | inr (given, have, later) ↦ elim later [
            | inl unopened ↦ never_opened numbers 0 [] each_can said caused unopened
            | inr (entries, opened, none) ↦ none
          ]
        ]
  ]

-- ---- readable files

pub holds-leads : {A : Type 0} (Accepts Fact : A → Type 0) (Refusal : Status → Type 0) → ((value : A) → Accepts value → Fact value)
    → Leads (judges Accepts (λ _. ⊥)) Fact Refusal
holds-leads Accepts Fact Refusal more = leads-more _ Accepts Fact Refusal more (judges-leads Accepts (λ _. ⊥) Refusal (λ said caused never. absurd never))

module _ (files : Files) (datasets : List Dataset) where
  readable_opens : (number : ℕ) (dataset : Dataset) (bytes : List ℕ) → slice_get datasets number ≡ Some dataset → IsReadableDataset files dataset bytes
      → Leads (opens_dataset (Some files) datasets number) (λ other. other ≡ bytes) (λ _. ⊥)
  readable_opens number dataset bytes at (name, file_is, has, none) =
      then-leads _ _ (λ source. (source.dataset ≡ dataset) × (source.file ≡ name)) _ _
      (holds-leads _ _ (λ _. ⊥) (λ source is. source_is source is))
      (λ source is. then-leads _ _ (λ other. other ≡ bytes) _ _
      (subst (λ (it : List ℕ). Leads (fetches (Some files) it DATA_LIMIT) (λ other. other ≡ bytes) (λ _. ⊥)) (sym is.1)
      (fetches-leads files name DATA_LIMIT bytes has (λ _. ⊥)))
      (λ other same. then-leads _ _ (λ value. Unit {0}) _ _ (read_leads source other is.0 same)
      (λ value done. leads-more _ _ _ (λ _. ⊥) (λ given own. own ∙ same) (gives-leads other (λ _. ⊥)))))
    where
      source_is : (source : Source) → IsSourceAt datasets number source → (source.dataset ≡ dataset) × (source.file ≡ name)
      source_is source is =
          let own : source.dataset ≡ dataset = same_Some source.dataset dataset (sym is.there ∙ at) in
          (own, same_Some source.file name (sym is.file_is ∙ ap (λ (it : Dataset). it.file) own ∙ file_is))

      read_leads : (source : Source) (other : List ℕ) → source.dataset ≡ dataset → other ≡ bytes
          → Leads (reads_data source.dataset other) (λ value. Unit {0}) (λ _. ⊥)
      read_leads source other is same =
          subst (λ (it : Dataset). Leads (reads_data it other) (λ value. Unit {0}) (λ _. ⊥)) (sym is)
          (subst (λ (it : List ℕ). Leads (reads_data dataset it) (λ value. Unit {0}) (λ _. ⊥)) (sym same)
          (leads-more _ _ _ (λ _. ⊥) (λ value good. tt)
          (judges-leads _ _ (λ _. ⊥) (λ said caused fault. none-some fault.0 (sym none ∙ fault.1)))))

  can_open : (number : ℕ) (dataset : Dataset) (bytes : List ℕ) → slice_get datasets number ≡ Some dataset → IsReadableDataset files dataset bytes
      → CanOpen (Some files) datasets number
  can_open number dataset bytes at readable = record {
    dataset = dataset;
    there = at;
    file = subst IsSome (sym readable.1) refl;
    never = (readable_opens number dataset bytes at readable).stops;
  }

  -- entries with these contents
  entries_are : (contents : ℕ → List ℕ) (entries : List DatasetBytes) → ((entry : DatasetBytes) → Contains entries entry → entry.bytes ≡ contents entry.dataset)
      → entries ≡ files_of contents (map (λ (entry : DatasetBytes). entry.dataset) entries)
  entries_are contents [] same = refl
  entries_are contents (entry ∷ rest) same =
      let first : entry.bytes ≡ contents entry.dataset = same entry (Contains-head entry rest) in
      let more = entries_are contents rest (λ other inside. same other (Contains-rest entry rest other inside)) in
      λ i. record { dataset = entry.dataset; bytes = first i } ∷ more i

  module _ (Needs : Dataset → Type 0) (facts : List (Fact Term)) (holds : HoldFacts files datasets Needs facts) where
    bytes_are : (other : List (Fact Term)) (loaded : AreLoaded (Some files) datasets Needs other) (entry : DatasetBytes) → Contains loaded.entries entry
        → entry.bytes ≡ holds.contents entry.dataset
    bytes_are other loaded entry inside =
        let within : Contains loaded.numbers entry.dataset =
        subst (λ (it : List ℕ). Contains it entry.dataset) loaded.opened.numbers_are
        (Contains-map (λ (it : DatasetBytes). it.dataset) loaded.entries entry inside) in
        let found = (loaded.needed.exact entry.dataset).0 within in
        (readable_opens entry.dataset found.0 (holds.contents entry.dataset) found.1 (holds.readable entry.dataset found.0 found.1 found.2)).goes
        entry.bytes (loaded.opened.opened entry inside)

    facts_one : FactsAreOne → (other : List (Fact Term)) → AreLoaded (Some files) datasets Needs other → other ≡ facts
    facts_one one other loaded =
        let numbers : map (λ (entry : DatasetBytes). entry.dataset) loaded.entries ≡ holds.numbers =
        loaded.opened.numbers_are ∙ needed_one datasets Needs loaded.numbers holds.numbers loaded.needed holds.needed in
        let entries : loaded.entries ≡ files_of holds.contents holds.numbers =
        entries_are holds.contents loaded.entries (bytes_are other loaded) ∙ ap (files_of holds.contents) numbers in
        (one datasets 0 (files_of holds.contents holds.numbers) other facts loaded.facts_are.next holds.facts_are.next
        (subst (λ (it : List DatasetBytes). AreFactsFrom datasets 0 it other loaded.facts_are.next) entries loaded.facts_are.are) holds.facts_are.are).0

    -- the facts that are loaded are those of the readable files
    pub holds_leads : FactsAreOne → Leads (loads (Some files) datasets Needs) (λ other. other ≡ facts) (λ _. ⊥)
    holds_leads one = record {
      goes = λ other goes. facts_one one other (are_loaded (Some files) datasets Needs other goes);
      stops = loads_never (Some files) datasets Needs (λ number dataset at needs.
          can_open number dataset (holds.contents number) at (holds.readable number dataset at needs));
    }
