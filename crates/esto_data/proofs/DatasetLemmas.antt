-- The files of the datasets that are needed, opened one after the other.
use Rattle.std.proofs.Common.{◌≡◌, ◌↔◌, ◌<◌, ◌≤◌, ◌+◌, ℕ, suc, List, [], ◌∷◌, ◌++◌, drop, length, get_or, Contains, slice_get, Option, Some, None, Result}
use Rattle.std.proofs.Common.{Ok, Err, refl, sym, ap, subst, ◌∙◌, arith, inl, inr}
use Rattle.std.specs.Prelude.{AllPairs, IfOk, IfSome, IsSome}
use Rattle.std.specs.Result.{IsErrAnd}
use Rattle.std.proofs.lemmas.List.Elements.{Contains-append_cases, Contains-append_left, Contains-append_right, Contains-get_or}
use Rattle.std.proofs.lemmas.List.Quantifiers.{all_pairs_push}
use Rattle.std.proofs.lemmas.Option.{same_Some, slice_get_within}
use Rattle.esto_mapping.specs.declared.dataset.Dataset.{Dataset}
use Rattle.esto_course.specs.Course.{Course, IsQuiet, Stops, judges, demands, gives, and_then, each}
use Rattle.esto_course.specs.Course.Point.{underway}
use Rattle.esto_course.specs.Course.Stops.{refused}
use Rattle.esto_course.proofs.Asking.{first_way_asks, quiet_demands, quiet_judges, quiet_then}
use Rattle.esto_course.proofs.Steps.{Leads, first_stops, then_stops, then_goes, gives_goes, caused_more, each_next, each_stops, each_goes}
use Rattle.esto_data.specs.Coding.{IsCodedFrom}
use Rattle.esto_fill.specs.Files.{AreReadable, FindsFault, dataset_fault}
use Rattle.esto_fill.proofs.FileLemmas.{facts_flat}
use Rattle.esto_fill.proofs.LawfulLemmas.{documents_are_lawful}
use Rattle.esto_data.specs.declared.coded_data.CodedData.{CodedData}
use Rattle.esto_fill.specs.declared.datasets.DatasetBytes.{DatasetBytes}
use Rattle.esto_fill.specs.declared.wanted.Wanted.{Wanted}
use Rattle.esto_ports.specs.Files.{Files}
use Rattle.esto_ports.specs.declared.file_fault.FileError.{FileError}
use Rattle.esto_ports.specs.declared.file_fault.FileError.TheVariants.{Fault}
use Rattle.esto_ports.specs.declared.file_fault.FileFault.{FileFault}
use Rattle.esto_semantics.specs.declared.fact.Fact.{Fact}
use Rattle.esto_term.proofs.ListLemmas.{Contains-at, Contains-cases, Contains-head, Contains-nil}
use Rattle.esto_term.proofs.PlaceLemmas.{item_at, earlier_or_last}
use Rattle.esto_term.specs.declared.term.Term.{Term}
use Rattle.esto_status.specs.Answers.{Answers, IsWant, IsCaused}
use Rattle.esto_status.specs.Asked.{AsksIn}
use Rattle.esto_data.specs.Datasets.{AddsNeeded, AreFactsOfFiles, AreNeeded, HoldsFiles, HoldsLeft, IsSourceAt, Loads, LoadsAsking, LoadsFiles, LoadsMore}
use Rattle.esto_data.specs.Datasets.{Source, demands_file, demands_files, loads, loads_files, loads_next, opens_dataset, opens_source, reads_data}
use Rattle.esto_status.specs.Fetch.{fetches}
use Rattle.esto_status.specs.declared.limits.TheConstants.{DATA_LIMIT}
use Rattle.esto_status.specs.declared.status.Status.{Status}
use Rattle.esto_status.specs.declared.status.Status.TheVariants.{BadDataset, NoData, OutOfMemory}
use Rattle.esto_status.proofs.AskedSteps.{exit_asks, later_asks, quiet_asks, wanted as judged_want}
use Rattle.esto_status.proofs.FileSteps.{opened_asks, opened_goes, unfetched_asks, unfetched_stops, unread_asks, unread_stops}
use Rattle.esto_status.proofs.LoopSteps.{IsAlong, along_end_asks, along_ends, along_goes, along_starts, along_stop_asks, along_stops, along_wants, kept_asks}
use Rattle.esto_status.proofs.LoopSteps.{quiet_each}
use Rattle.esto_status.proofs.Steps.{caused_weaker}
use Rattle.esto_data.proofs.LeadLemmas.{loaded_apart, opened_from}

-- ---- the content of one file

module _ (datasets : List Dataset) (number : ℕ) (bytes : List ℕ) (dataset : Dataset) (at : slice_get datasets number ≡ Some dataset) where
  -- what is found of the file of the dataset at the number is found of its file
  pub found_at : (A : Type 0) (result : Result A FileError) → IfSome (slice_get datasets number) (λ it. FindsFault (dataset_fault it bytes) result)
      → FindsFault (dataset_fault dataset bytes) result
  found_at A result found = subst (λ (it : Option Dataset). IfSome it (λ own. FindsFault (dataset_fault own bytes) result)) at found

pub data_goes : (dataset : Dataset) (bytes : List ℕ) → dataset_fault dataset bytes ≡ None → (reads_data dataset bytes).goes tt
unfolding judges
data_goes dataset bytes none = none

pub data_stops : (dataset : Dataset) (bytes name : List ℕ) (fault : FileFault) → dataset_fault dataset bytes ≡ Some fault → name ≡ dataset.name
    → Stops IsWant (IsCaused ⊥) (reads_data dataset bytes) (BadDataset name fault)
unfolding judges
data_stops dataset bytes name fault found is = refused (record { cause = tt }) (fault, found, ap (λ it. BadDataset it fault) is)

-- the error that was given is the first fault
pub fault_found : (A : Type 0) (dataset : Dataset) (bytes : List ℕ) (error : FileError) (fault : FileFault) → error ≡ Fault fault
    → FindsFault {A = A} (dataset_fault dataset bytes) (Err error) → dataset_fault dataset bytes ≡ Some fault
fault_found A dataset bytes error fault is found = subst (λ (it : FileError). FindsFault {A = A} (dataset_fault dataset bytes) (Err it)) is found

-- the name of the dataset at the number
pub own_name : (datasets : List Dataset) (number : ℕ) (dataset own : Dataset) → slice_get datasets number ≡ Some dataset
    → slice_get datasets number ≡ Some own → own.name ≡ dataset.name
own_name datasets number dataset own at is = ap (λ (it : Dataset). it.name) (same_Some own dataset (sym is ∙ at))

-- ---- one file

module _ (files : Option Files) (datasets : List Dataset) (number : ℕ) (source : Source) (at : IsSourceAt datasets number source) where
  -- the file is not fetched
  pub source_unfetched : {rose : Type 0} {refusal : Status} → Stops IsWant (IsCaused rose) (fetches files source.file DATA_LIMIT) refusal
      → Stops IsWant (IsCaused rose) (opens_dataset files datasets number) refusal
  source_unfetched stops = unfetched_stops (IsSourceAt datasets number) (λ it. it.file) DATA_LIMIT (λ it. reads_data it.dataset) files source at stops

  pub source_unfetched_asks : {before after : Option (List (List ℕ))} {refusal : Status}
      → AsksIn before after (fetches files source.file DATA_LIMIT) (Err refusal)
      → AsksIn before after (opens_dataset files datasets number) (Err refusal)
  source_unfetched_asks asks = unfetched_asks (IsSourceAt datasets number) (λ it. it.file) DATA_LIMIT (λ it. reads_data it.dataset) files source at asks

  module _ (bytes : List ℕ) where
    -- it is fetched, and its content read
    pub source_opened : (fetches files source.file DATA_LIMIT).goes bytes → (reads_data source.dataset bytes).goes tt
        → (opens_dataset files datasets number).goes bytes
    source_opened fetched good =
        opened_goes (IsSourceAt datasets number) (λ it. it.file) DATA_LIMIT (λ it. reads_data it.dataset) files source at bytes fetched good

    pub source_opened_asks : {before after : Option (List (List ℕ))} → AsksIn before after (fetches files source.file DATA_LIMIT) (Ok bytes)
        → (reads_data source.dataset bytes).goes tt
        → AsksIn before after (opens_dataset files datasets number) (Ok bytes)
    source_opened_asks asked good = opened_asks (IsSourceAt datasets number) (λ it. it.file) DATA_LIMIT (λ it. reads_data it.dataset) files source at bytes
        (quiet_judges _ _) asked good

    -- its content has a fault
    pub source_unread : {rose : Type 0} {refusal : Status} → (fetches files source.file DATA_LIMIT).goes bytes
        → Stops IsWant (IsCaused ⊥) (reads_data source.dataset bytes) refusal
        → Stops IsWant (IsCaused rose) (opens_dataset files datasets number) refusal
    source_unread fetched stops =
        unread_stops (IsSourceAt datasets number) (λ it. it.file) DATA_LIMIT (λ it. reads_data it.dataset) files source at bytes fetched stops

    pub source_unread_asks : {before after : Option (List (List ℕ))} {refusal : Status}
        → AsksIn before after (fetches files source.file DATA_LIMIT) (Ok bytes)
        → Stops IsWant (IsCaused ⊥) (reads_data source.dataset bytes) refusal
        → AsksIn before after (opens_dataset files datasets number) (Err refusal)
    source_unread_asks asked stops = unread_asks (IsSourceAt datasets number) (λ it. it.file) DATA_LIMIT (λ it. reads_data it.dataset) files source at bytes
        (quiet_judges _ _) asked stops

-- ---- all files

-- the files, with that of the dataset of the number
abbrev pub with_file : List DatasetBytes → ℕ → List ℕ → List DatasetBytes
with_file contents number bytes = contents ++ record { dataset = number; bytes = bytes } ∷ []

-- after the files of the first numbers, so many: with these contents the course goes on, and the names came to those that were asked for
abbrev pub IsAlongFiles : Option Files → List Dataset → List ℕ → Option (List (List ℕ)) → ℕ → List DatasetBytes → Option (List (List ℕ)) → Type 0
IsAlongFiles files datasets numbers before index contents now =
    IsAlong (loads_next files datasets) numbers (loads_files files datasets numbers) before index contents now

-- and for them the rows of codes stand
pub record SoFarLoaded (files : Option Files) (datasets : List Dataset) (wanted : Wanted) (numbers : List ℕ) (before : Option (List (List ℕ))) (index : ℕ)
    (coded : CodedData) (now : Option (List (List ℕ))) : Type 0 where
  pub contents : List DatasetBytes
  pub along : IsAlongFiles files datasets numbers before index contents now
  pub are : IsCodedFrom datasets wanted contents coded

-- before the file of a dataset is asked for
next_way : (files : Option Files) (datasets : List Dataset) (counter : ℕ) (contents : List DatasetBytes) (number : ℕ)
    → (loads_next files datasets counter contents number).asks [] underway
next_way files datasets counter contents number =
    first_way_asks (opens_dataset files datasets number) (λ bytes. gives (with_file contents number bytes)) []
    (first_way_asks (judges (IsSourceAt datasets number) (λ _. ⊥)) (opens_source files) [] (quiet_judges _ _).underway)

module _ (files : Option Files) (datasets : List Dataset) (numbers : List ℕ) (before : Option (List (List ℕ))) where
  pub files_start : (contents : List DatasetBytes) → contents ≡ [] → IsAlongFiles files datasets numbers before 0 contents before
  files_start contents none = subst (λ (it : List DatasetBytes). IsAlongFiles files datasets numbers before 0 it before) (sym none)
      (along_starts (loads_next files datasets) numbers [] before)

  module _ (index : ℕ) (contents : List DatasetBytes) (now : Option (List (List ℕ)))
      (along : IsAlongFiles files datasets numbers before index contents now) where
    module _ (number : ℕ) (below : index < length numbers) (is : number ≡ get_or numbers index number) where
      -- one file more
      pub files_go : (bytes : List ℕ) → (opens_dataset files datasets number).goes bytes → (later : Option (List (List ℕ)))
          → AsksIn now later (opens_dataset files datasets number) (Ok bytes)
          → IsAlongFiles files datasets numbers before (index + 1) (with_file contents number bytes) later
      files_go bytes goes later asked =
          along_goes (loads_next files datasets) numbers (loads_files files datasets numbers) before index contents now along number below is
          (with_file contents number bytes) later
          (then_goes (opens_dataset files datasets number) (λ it. gives (with_file contents number it)) bytes (with_file contents number bytes) goes
          (gives_goes Status _ _ refl))
          (kept_asks (opens_dataset files datasets number) (with_file contents number) bytes asked)

      -- the file is not opened
      pub files_stop : {rose : Type 0} {refusal : Status} → Stops IsWant (IsCaused rose) (opens_dataset files datasets number) refusal
          → Stops IsWant (IsCaused rose) (loads_files files datasets numbers) refusal
      files_stop stops = along_stops (loads_next files datasets) numbers (loads_files files datasets numbers) before index contents now along number below is
          (first_stops _ _ stops)

      pub files_stop_asks : (later : Option (List (List ℕ))) (refusal : Status) → AsksIn now later (opens_dataset files datasets number) (Err refusal)
          → AsksIn before later (loads_files files datasets numbers) (Err refusal)
      files_stop_asks later refusal asked = along_stop_asks (loads_next files datasets) numbers (loads_files files datasets numbers) before index
          contents now along number below is later refusal
          (exit_asks (opens_dataset files datasets number) (λ it. gives (with_file contents number it)) asked)

    -- want of memory, before the next file is asked for
    pub files_want : AsksIn before now (loads_files files datasets numbers) (Err OutOfMemory)
    files_want = along_wants (loads_next files datasets) numbers (loads_files files datasets numbers) before index contents now along (next_way files datasets)

    -- no file is left
    pub files_end : length numbers ≤ index → (loads_files files datasets numbers).goes contents
    files_end le = along_ends (loads_next files datasets) numbers (loads_files files datasets numbers) before index contents now along le

    pub files_end_asks : length numbers ≤ index → AsksIn before now (loads_files files datasets numbers) (Ok contents)
    files_end_asks le = along_end_asks (loads_next files datasets) numbers (loads_files files datasets numbers) before index contents now along le

-- an error that `?` hands on
pub loading_exit : {rose : Type 0} {before after : Option (List (List ℕ))} (files : Option Files) (datasets : List Dataset) (wanted : Wanted) (numbers : List ℕ)
    (error : Status) (result : Result CodedData Status) → IsErrAnd result (λ handed. handed ≡ error)
    → Stops IsWant (IsCaused rose) (loads_files files datasets numbers) error → AsksIn before after (loads_files files datasets numbers) (Err error)
    → LoadsFiles files datasets wanted numbers rose before after result
loading_exit files datasets wanted numbers error (Ok _) handed stops asks = absurd handed
loading_exit files datasets wanted numbers error (Err handed_on) handed stops asks = rw handed (stops, asks)

module _ (files : Option Files) (datasets : List Dataset) (wanted : Wanted) (numbers : List ℕ) (before : Option (List (List ℕ))) where
  pub loading_starts : (coded : CodedData) → IsCodedFrom datasets wanted [] coded → SoFarLoaded files datasets wanted numbers before 0 coded before
  loading_starts coded nothing = record { contents = []; along = files_start files datasets numbers before [] refl; are = nothing }

  module _ (index : ℕ) (coded : CodedData) (now : Option (List (List ℕ))) (so_far : SoFarLoaded files datasets wanted numbers before index coded now) where
    pub loading_goes : (number : ℕ) → index < length numbers → number ≡ get_or numbers index number → (next : CodedData) (bytes : List ℕ)
        → (opens_dataset files datasets number).goes bytes → LoadsMore datasets wanted number bytes coded next
        → (later : Option (List (List ℕ))) → AsksIn now later (opens_dataset files datasets number) (Ok bytes)
        → SoFarLoaded files datasets wanted numbers before (index + 1) next later
    loading_goes number below is next bytes goes more later asked = record {
      contents = with_file so_far.contents number bytes;
      along = files_go files datasets numbers before index so_far.contents now so_far.along number below is bytes goes later asked;
      are = more so_far.contents so_far.are;
    }

    pub loading_ends : length numbers ≤ index → (rose : Type 0) → LoadsFiles files datasets wanted numbers rose before now (Ok coded)
    loading_ends le rose = (
      so_far.contents,
      files_end files datasets numbers before index so_far.contents now so_far.along le,
      so_far.are,
      files_end_asks files datasets numbers before index so_far.contents now so_far.along le,
    )

-- ---- that each has a file

pub record SoFarDemanded (datasets : List Dataset) (numbers : List ℕ) (index : ℕ) : Type 0 where
  pub counter : ℕ
  pub leads : Leads (each (demands_file datasets) counter tt (drop index numbers)) (demands_files datasets numbers)

module _ (datasets : List Dataset) (numbers : List ℕ) where
  module _ (index : ℕ) (so_far : SoFarDemanded datasets numbers index) where
    module _ (number : ℕ) (below : index < length numbers) (is : number ≡ get_or numbers index number) where
      pub demanding_goes : ((place : ℕ) → (demands_file datasets place tt number).goes tt) → SoFarDemanded datasets numbers (index + 1)
      demanding_goes goes = record {
        counter = suc so_far.counter;
        leads = each_next (demands_file datasets) numbers (demands_files datasets numbers) so_far.counter index tt so_far.leads number below is tt
            (goes so_far.counter);
      }

      pub demanding_stops : {refusal : Status} → ((place : ℕ) → Stops IsWant (IsCaused ⊥) (demands_file datasets place tt number) refusal)
          → Stops IsWant (IsCaused ⊥) (demands_files datasets numbers) refusal
      demanding_stops stops = each_stops (demands_file datasets) numbers (demands_files datasets numbers) so_far.counter index tt so_far.leads number below is
          (stops so_far.counter)

    pub demanding_ends : length numbers ≤ index → (demands_files datasets numbers).goes tt
    demanding_ends le = each_goes (demands_file datasets) numbers (demands_files datasets numbers) so_far.counter index tt so_far.leads le

-- the dataset has a file, or it has none
pub file_there : (datasets : List Dataset) (number place : ℕ) (dataset : Dataset) → slice_get datasets number ≡ Some dataset → IsSome dataset.file
    → (demands_file datasets place tt number).goes tt
unfolding judges demands
file_there datasets number place dataset at some = then_goes (judges (λ it. slice_get datasets number ≡ Some it) (λ _. ⊥)) _ dataset tt at some

pub file_absent : (datasets : List Dataset) (number place : ℕ) (dataset : Dataset) (name : List ℕ) → slice_get datasets number ≡ Some dataset
    → ¬ (IsSome dataset.file) → name ≡ dataset.name
    → Stops IsWant (IsCaused ⊥) (demands_file datasets place tt number) (NoData name)
unfolding judges demands
file_absent datasets number place dataset name at none is =
    then_stops (judges (λ it. slice_get datasets number ≡ Some it) (λ _. ⊥)) _ dataset at (refused (record { cause = tt }) (none, ap NoData is))

source_of : (datasets : List Dataset) (number : ℕ) (dataset : Dataset) → slice_get datasets number ≡ Some dataset → (file : Option (List ℕ))
    → dataset.file ≡ file → IsSome file → (source : Source) × IsSourceAt datasets number source
source_of datasets number dataset at None is some = absurd (cc)
source_of datasets number dataset at (Some name) is some = (record { dataset = dataset; file = name }, record { there = at; file_is = is })

-- where each has a file, each number is that of a source
pub sources_there : (datasets : List Dataset) (counter : ℕ) (numbers : List ℕ) → (each (demands_file datasets) counter tt numbers).goes tt
    → (number : ℕ) → Contains numbers number → (source : Source) × IsSourceAt datasets number source
unfolding and_then judges demands
sources_there datasets counter [] goes number inside = absurd (Contains-nil number inside)
sources_there datasets counter (first ∷ rest) (given, (dataset, at, some), more) number inside = elim (Contains-cases first rest number inside) [
  | inl is ↦ subst (λ (it : ℕ). (source : Source) × IsSourceAt datasets it source) is (source_of datasets first dataset at dataset.file refl some)
  | inr later ↦ sources_there datasets (suc counter) rest more number later
]

-- that is asked of datasets alone
demands_quiet : (datasets : List Dataset) (numbers : List ℕ) → IsQuiet (demands_files datasets numbers)
demands_quiet datasets numbers = quiet_each (demands_file datasets)
    (λ place given number. quiet_then (judges (λ dataset. slice_get datasets number ≡ Some dataset) (λ _. ⊥)) _ (quiet_judges _ _)
    (λ dataset. quiet_demands (IsSome dataset.file) (NoData dataset.name))) 0 tt numbers

-- ---- all together

-- no file that was opened has a fault
read_well : (files : Option Files) (datasets : List Dataset) (number : ℕ) (bytes : List ℕ) (dataset : Dataset) → slice_get datasets number ≡ Some dataset
    → (opens_dataset files datasets number).goes bytes → dataset_fault dataset bytes ≡ None
unfolding and_then judges gives
read_well files datasets number bytes dataset at (source, there, (own, fetched, (given, good, is))) =
    subst (λ (it : List ℕ). dataset_fault dataset it ≡ None) (sym is)
    (subst (λ (it : Dataset). dataset_fault it own ≡ None) (same_Some source.dataset dataset (sym there.there ∙ at)) good)

pub opened_readable : (files : Option Files) (datasets : List Dataset) (numbers : List ℕ) (contents : List DatasetBytes)
    → (loads_files files datasets numbers).goes contents → AreReadable datasets contents
opened_readable files datasets numbers contents goes place file dataset there at =
    let found = opened_from files datasets numbers 0 [] contents goes in
    let own : contents ≡ found.0 = found.1 in
    read_well files datasets file.dataset file.bytes dataset at
    (found.2.opened file (subst (λ (it : List DatasetBytes). Contains it file) own (Contains-at contents place file there)))

module _ (files : Option Files) (datasets : List Dataset) (Needs : Dataset → Type 0) (numbers : List ℕ)
    (needed : AreNeeded datasets Needs numbers) where
  pub needed_there : (number : ℕ) → Contains numbers number → number < length datasets
  needed_there number inside = let found = (needed.exact number).0 inside in slice_get_within datasets number found.0 found.1

  -- a dataset has no file
  pub demand_stops : (rose : Type 0) (error : Status) → Stops IsWant (IsCaused ⊥) (demands_files datasets numbers) error
      → Stops IsWant (IsCaused rose) (loads files datasets Needs) error
  unfolding judges
  demand_stops rose error stops =
      then_stops (judges (AreNeeded datasets Needs) (λ _. ⊥)) _ numbers needed
      (first_stops _ _ (caused_more _ error (caused_weaker (λ none. absurd none)) stops))

  -- what follows, once the files of the datasets are demanded, and once the datasets are found
  abbrev then_loads : Unit {0} → Course Status (List (Fact Term))
  then_loads _ = and_then (loads_files files datasets numbers) (λ contents. judges (AreFactsOfFiles datasets contents) (λ _. ⊥))

  abbrev then_demands : List ℕ → Course Status (List (Fact Term))
  then_demands them = and_then (demands_files datasets them) (λ _. and_then (loads_files files datasets them) (λ contents.
      judges (AreFactsOfFiles datasets contents) (λ _. ⊥)))

  found_asks : {before after : Option (List (List ℕ))} {result : Result (List (Fact Term)) Status} → AsksIn before after (then_demands numbers) result
      → AsksIn before after (loads files datasets Needs) result
  unfolding judges
  found_asks {before = before} asks =
      later_asks (judges (AreNeeded datasets Needs) (λ _. ⊥)) then_demands
      (quiet_asks (judges (AreNeeded datasets Needs) (λ _. ⊥)) before (Ok numbers) (quiet_judges _ _) needed) asks

  pub demand_asks : (told : Option (List (List ℕ))) (error : Status) → Stops IsWant (IsCaused ⊥) (demands_files datasets numbers) error
      → AsksIn told told (loads files datasets Needs) (Err error)
  demand_asks told error stops =
      found_asks (exit_asks (demands_files datasets numbers) then_loads
      (quiet_asks (demands_files datasets numbers) told (Err error) (demands_quiet datasets numbers) stops))

  module _ (have : (demands_files datasets numbers).goes tt) where
    have_asks : {before after : Option (List (List ℕ))} {result : Result (List (Fact Term)) Status} → AsksIn before after (then_loads tt) result
        → AsksIn before after (loads files datasets Needs) result
    have_asks {before = before} asks =
        found_asks (later_asks (demands_files datasets numbers) then_loads
        (quiet_asks (demands_files datasets numbers) before (Ok tt) (demands_quiet datasets numbers) have) asks)

    -- a file is not opened
    pub files_stopped : {rose : Type 0} {refusal : Status} → Stops IsWant (IsCaused rose) (loads_files files datasets numbers) refusal
        → Stops IsWant (IsCaused rose) (loads files datasets Needs) refusal
    unfolding judges
    files_stopped stops =
        then_stops (judges (AreNeeded datasets Needs) (λ _. ⊥)) _ numbers needed
        (then_stops (demands_files datasets numbers) _ tt have (first_stops _ _ stops))

    pub files_stopped_asks : {before after : Option (List (List ℕ))} {refusal : Status}
        → AsksIn before after (loads_files files datasets numbers) (Err refusal)
        → AsksIn before after (loads files datasets Needs) (Err refusal)
    files_stopped_asks asked =
        have_asks (exit_asks (loads_files files datasets numbers) (λ it. judges (AreFactsOfFiles datasets it) (λ _. ⊥)) asked)

    module _ (contents : List DatasetBytes) (facts : List (Fact Term)) (are : AreFactsOfFiles datasets contents facts) where
      -- all are opened
      pub files_loaded : (loads_files files datasets numbers).goes contents → (loads files datasets Needs).goes facts
      unfolding judges
      files_loaded goes =
          then_goes (judges (AreNeeded datasets Needs) (λ _. ⊥)) _ numbers facts needed
          (then_goes (demands_files datasets numbers) _ tt facts have
          (then_goes (loads_files files datasets numbers) _ contents facts goes are))

      pub files_loaded_asks : {before after : Option (List (List ℕ))} → AsksIn before after (loads_files files datasets numbers) (Ok contents)
          → AsksIn before after (loads files datasets Needs) (Ok facts)
      unfolding judges
      files_loaded_asks {after = after} asked =
          have_asks (later_asks (loads_files files datasets numbers) (λ it. judges (AreFactsOfFiles datasets it) (λ _. ⊥)) asked
          (quiet_asks (judges (AreFactsOfFiles datasets contents) (λ _. ⊥)) after (Ok facts) (quiet_judges _ _) are))

  module _ (wanted : Wanted) where
    -- the facts of files that were opened meet the laws, since no dataset has two files
    pub files_held : (contents : List DatasetBytes) → (loads_files files datasets numbers).goes contents → (coded : CodedData)
        → IsCodedFrom datasets wanted contents coded → (facts : List (Fact Term)) × HoldsFiles datasets wanted facts contents coded
    files_held contents goes coded (loaded, stands, (facts, are, some, rising)) = (
      facts,
      record {
        readable = opened_readable files datasets numbers contents goes;
        are = record { next = loaded.next; are = are; flat = facts_flat datasets 0 contents facts loaded.next are };
        left = record {
          loaded = loaded;
          stand = stands;
          leaves = some;
          lawful = record {
            flat = facts_flat datasets 0 contents facts loaded.next are;
            met = λ rules laws. documents_are_lawful datasets contents 0 facts loaded.next rules
                (loaded_apart files datasets numbers contents goes needed.rising) rising are laws;
          };
        };
      },
    )

    -- what came of the files
    pub loads_by : (demands_files datasets numbers).goes tt → (rose : Type 0) (before after : Option (List (List ℕ))) (result : Result CodedData Status)
        → LoadsFiles files datasets wanted numbers rose before after result
        → Loads (HoldsLeft datasets wanted) (loads files datasets Needs) rose result
    loads_by have rose before after (Ok coded) (contents, goes, stands, asked) =
        let held = files_held contents goes coded stands in
        (held.0, files_loaded have contents held.0 held.1.are goes, held.1.left)
    loads_by have rose before after (Err refusal) (stops, asked) = files_stopped have stops

    pub loads_by_asks : (demands_files datasets numbers).goes tt → (rose : Type 0) (before after : Option (List (List ℕ)))
        (result : Result CodedData Status) → LoadsFiles files datasets wanted numbers rose before after result
        → LoadsAsking before after (HoldsLeft datasets wanted) (loads files datasets Needs) result
    loads_by_asks have rose before after (Ok coded) (contents, goes, stands, asked) =
        let held = files_held contents goes coded stands in
        (held.0, files_loaded_asks have contents held.0 held.1.are asked, held.1.left)
    loads_by_asks have rose before after (Err refusal) (stops, asked) = files_stopped_asks have asked

    -- what came of files that are kept
    pub keeps_by : (demands_files datasets numbers).goes tt → (rose : Type 0) (coded : CodedData) (result : Result (List DatasetBytes) Status)
        → Answers (loads_files files datasets numbers) rose result → IfOk result (λ it. IsCodedFrom datasets wanted it coded)
        → Loads (λ facts it. HoldsFiles datasets wanted facts it coded) (loads files datasets Needs) rose result
    keeps_by have rose coded (Ok contents) goes stands =
        let held = files_held contents goes coded stands in
        (held.0, files_loaded have contents held.0 held.1.are goes, held.1)
    keeps_by have rose coded (Err refusal) stops stands = files_stopped have stops

    pub keeps_by_asks : (demands_files datasets numbers).goes tt → (rose : Type 0) (before after : Option (List (List ℕ))) (coded : CodedData)
        (result : Result (List DatasetBytes) Status) → Answers (loads_files files datasets numbers) rose result
        → AsksIn before after (loads_files files datasets numbers) result → IfOk result (λ it. IsCodedFrom datasets wanted it coded)
        → LoadsAsking before after (λ facts it. HoldsFiles datasets wanted facts it coded) (loads files datasets Needs) result
    keeps_by_asks have rose before after coded (Ok contents) goes asked stands =
        let held = files_held contents goes coded stands in
        (held.0, files_loaded_asks have contents held.0 held.1.are asked, held.1)
    keeps_by_asks have rose before after coded (Err refusal) stops asked stands = files_stopped_asks have asked

-- an error that `?` hands on, at which the course stops
pub load_exit : {A : Type 0} (Holds : List (Fact Term) → A → Type 0) (course : Course Status (List (Fact Term))) (rose : Type 0) (error : Status)
    (result : Result A Status) → IsErrAnd result (λ handed. handed ≡ error) → Stops IsWant (IsCaused rose) course error
    → Loads Holds course rose result
load_exit Holds course rose error (Ok _) handed stops = absurd handed
load_exit Holds course rose error (Err handed_on) handed stops = rw handed stops

pub load_exit_asks : {A : Type 0} {before after : Option (List (List ℕ))} (Holds : List (Fact Term) → A → Type 0) (course : Course Status (List (Fact Term)))
    (error : Status) (result : Result A Status) → IsErrAnd result (λ handed. handed ≡ error) → AsksIn before after course (Err error)
    → LoadsAsking before after Holds course result
load_exit_asks Holds course error (Ok _) handed asks = absurd handed
load_exit_asks Holds course error (Err handed_on) handed asks = rw handed asks

-- a dataset that is needed has no file
module _ {A : Type 0} (files : Option Files) (datasets : List Dataset) (Needs : Dataset → Type 0) (numbers : List ℕ)
    (needed : AreNeeded datasets Needs numbers) (Holds : List (Fact Term) → A → Type 0) (error : Status) (result : Result A Status)
    (handed : IsErrAnd result (λ it. it ≡ error)) (stops : Stops IsWant (IsCaused ⊥) (demands_files datasets numbers) error) where
  pub demand_exit : (rose : Type 0) → Loads Holds (loads files datasets Needs) rose result
  demand_exit rose = load_exit Holds (loads files datasets Needs) rose error result handed
      (demand_stops files datasets Needs numbers needed rose error stops)

  pub demand_exit_asks : (told : Option (List (List ℕ))) → LoadsAsking told told Holds (loads files datasets Needs) result
  demand_exit_asks told = load_exit_asks Holds (loads files datasets Needs) error result handed
      (demand_asks files datasets Needs numbers needed told error stops)

-- want of memory, before anything is asked for
pub loads_want : (files : Option Files) (datasets : List Dataset) (Needs : Dataset → Type 0) (told : Option (List (List ℕ)))
    → AsksIn told told (loads files datasets Needs) (Err OutOfMemory)
loads_want files datasets Needs told = judged_want told (AreNeeded datasets Needs) (λ _. ⊥) _

-- ---- which are needed

-- of the datasets below a place, the numbers of those that are needed
pub record AreNeededBelow (datasets : List Dataset) (Needs : Dataset → Type 0) (count : ℕ) (numbers : List ℕ) : Type 0 where
  pub exact : (number : ℕ) → Contains numbers number
      ↔ ((number < count) × ((dataset : Dataset) × (slice_get datasets number ≡ Some dataset) × Needs dataset))
  pub rising : AllPairs ◌<◌ numbers

none_needed : (datasets : List Dataset) (Needs : Dataset → Type 0) → AreNeededBelow datasets Needs 0 []
none_needed datasets Needs = record {
  exact = λ number. ((λ inside. absurd (Contains-nil number inside)), (λ found. absurd (omega (arith, found.0))));
  rising = λ i j d less within. absurd (omega (arith, less, within));
}

module _ (datasets : List Dataset) (Needs : Dataset → Type 0) (count : ℕ) (dataset : Dataset) (at : slice_get datasets count ≡ Some dataset) (old new : List ℕ)
    (so_far : AreNeededBelow datasets Needs count old) where
  last_is : (number : ℕ) → number ≡ count → (other : Dataset) → slice_get datasets number ≡ Some other → dataset ≡ other
  last_is number last other there = same_Some dataset other (sym at ∙ ap (slice_get datasets) (sym last) ∙ there)

  takes : Needs dataset → new ≡ old ++ count ∷ [] → AreNeededBelow datasets Needs (count + 1) new
  takes needs is = subst (AreNeededBelow datasets Needs (count + 1)) (sym is) (record {
    exact = λ number. (
      (λ inside. elim (Contains-append_cases old (count ∷ []) number inside) [
        | inl earlier ↦ let found = (so_far.exact number).0 earlier in (omega (arith, found.0), found.1)
        | inr last ↦ elim (Contains-cases count [] number last) [
          | inl same ↦ (omega (arith, same), (dataset, ap (slice_get datasets) (sym same) ∙ at, needs))
          | inr none ↦ absurd (Contains-nil number none)
        ]
      ]),
      (λ found. elim (earlier_or_last number count found.0) [
        | inl earlier ↦ Contains-append_left old (count ∷ []) number ((so_far.exact number).1 (earlier, found.1))
        | inr last ↦ subst (Contains (old ++ count ∷ [])) (sym last) (Contains-append_right old (count ∷ []) count (Contains-head count []))
      ]),
    );
    rising = all_pairs_push ◌<◌ old count so_far.rising (λ k d within. ((so_far.exact _).0 (Contains-get_or old k d within)).0);
  })

  skips : ¬ (Needs dataset) → new ≡ old → AreNeededBelow datasets Needs (count + 1) new
  skips not_needed is = subst (AreNeededBelow datasets Needs (count + 1)) (sym is) (record {
    exact = λ number. (
      (λ inside. let found = (so_far.exact number).0 inside in (omega (arith, found.0), found.1)),
      (λ found. elim (earlier_or_last number count found.0) [
        | inl earlier ↦ (so_far.exact number).1 (earlier, found.1)
        | inr last ↦ absurd (not_needed (subst Needs (sym (last_is number last found.1.0 found.1.1)) found.1.2))
      ]),
    );
    rising = so_far.rising;
  })

  -- one dataset more
  pub needed_more : AddsNeeded (Needs dataset) count old new → AreNeededBelow datasets Needs (count + 1) new
  needed_more adds = elim adds [ inl taken ↦ takes taken.0 taken.1 | inr skipped ↦ skips skipped.0 skipped.1 ]

pub needed_starts : (datasets : List Dataset) (Needs : Dataset → Type 0) (numbers : List ℕ) → numbers ≡ [] → AreNeededBelow datasets Needs 0 numbers
needed_starts datasets Needs numbers none = subst (AreNeededBelow datasets Needs 0) (sym none) (none_needed datasets Needs)

-- all datasets were looked at
pub needed_all : (datasets : List Dataset) (Needs : Dataset → Type 0) (count : ℕ) (numbers : List ℕ) → AreNeededBelow datasets Needs count numbers
    → length datasets ≤ count → AreNeeded datasets Needs numbers
needed_all datasets Needs count numbers so_far le = record {
  exact = λ number. (
    (λ inside. ((so_far.exact number).0 inside).1),
    (λ found. let within = slice_get_within datasets number found.0 found.1 in (so_far.exact number).1 (omega (arith, within, le), found)),
  );
  rising = so_far.rising;
}

-- the dataset that is read at a place
pub dataset_read : (datasets items : List Dataset) → items ≡ datasets → (number : ℕ) (dataset : Dataset) → number < length items
    → dataset ≡ get_or items number dataset → slice_get datasets number ≡ Some dataset
dataset_read datasets items are number dataset below is =
    subst (λ (it : List Dataset). slice_get it number ≡ Some dataset) are (item_at items number dataset below is)
