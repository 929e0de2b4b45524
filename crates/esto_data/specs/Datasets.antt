-- The files of the datasets that a command needs, as steps: each of the datasets has a file; then each file is fetched,
-- and its content read, before the next is fetched.
use Rattle.std.specs.Prelude.{◌≡◌, ◌↔◌, ◌⊎◌, ℕ, ◌+◌, ◌<◌, ◌≤◌, List, [], ◌∷◌, ◌++◌, map, length, slice_get, AllPairs, Contains, Option, Some, None, IsSome}
use Rattle.std.specs.Prelude.{Result, Ok, Err}
use Rattle.esto_mapping.specs.Datasets.{relation_count}
use Rattle.esto_mapping.specs.declared.dataset.Dataset.{Dataset}
use Rattle.esto_course.specs.Course.{Course, Stops, judges, demands, gives, and_then, each}
use Rattle.esto_data.specs.Coding.{IsCodedFrom, IsCodedOf}
use Rattle.esto_fill.specs.Files.{AreFactsFrom, AreReadable, dataset_fault}
use Rattle.esto_data.specs.declared.coded_data.CodedData.{CodedData}
use Rattle.esto_fill.specs.declared.datasets.DatasetBytes.{DatasetBytes}
use Rattle.esto_semantics.specs.Rules.{AreMet}
use Rattle.esto_fill.specs.Lawful.{AreLaws}
use Rattle.esto_fill.specs.Wanted.{Leaves}
use Rattle.esto_fill.specs.declared.loaded.Loaded.{Loaded}
use Rattle.esto_fill.specs.declared.wanted.Wanted.{Wanted}
use Rattle.esto_fill.specs.declared.wanted.Wanted.TheVariants.{Asked}
use Rattle.esto_query.specs.Making.{query_of}
use Rattle.esto_query.specs.declared.query.Query.{Query}
use Rattle.esto_ports.specs.Files.{Files}
use Rattle.esto_ports.specs.declared.file_fault.FileFault.{FileFault}
use Rattle.esto_semantics.specs.Maps.{AreFlat}
use Rattle.esto_semantics.specs.Queries.{ConjunctiveQuery}
use Rattle.esto_semantics.specs.Rules.{Rule}
use Rattle.esto_semantics.specs.declared.fact.Fact.{Fact}
use Rattle.esto_term.specs.declared.term.Term.{Term}
use Rattle.esto_status.specs.Answers.{IsWant, IsCaused}
use Rattle.esto_status.specs.Asked.{AsksIn}
use Rattle.esto_status.specs.Fetch.{fetches}
use Rattle.esto_status.specs.declared.limits.TheConstants.{DATA_LIMIT}
use Rattle.esto_status.specs.declared.status.Status.{Status}
use Rattle.esto_status.specs.declared.status.Status.TheVariants.{NoData, BadDataset}

-- ---- which datasets are needed

-- The relation is one of the dataset's, which stand from its base on.
abbrev pub HasRelation : Dataset → ℕ → Type 0
HasRelation dataset relation = (dataset.base ≤ relation) × (relation < dataset.base + relation_count dataset.model)

-- The body names the dataset: some atom is over a relation of it.
abbrev pub Names : List (Fact Term) → Dataset → Type 0
Names body dataset = (atom : Fact Term) × Contains body atom × HasRelation dataset atom.relation

-- One of the queries names the dataset.
abbrev pub OneNames : List ConjunctiveQuery → Dataset → Type 0
OneNames queries dataset = (query : ConjunctiveQuery) × Contains queries query × Names query.body dataset

-- Any dataset.
abbrev pub IsAny : Dataset → Type 0
IsAny dataset = Unit {0}

-- These are the numbers of the datasets that are needed, in order.
pub record AreNeeded (datasets : List Dataset) (Needs : Dataset → Type 0) (numbers : List ℕ) : Type 0 where
  pub exact : (number : ℕ) → Contains numbers number ↔ ((dataset : Dataset) × (slice_get datasets number ≡ Some dataset) × Needs dataset)
  pub rising : AllPairs ◌<◌ numbers

-- ---- the steps

-- A dataset and its file.
pub record Source : Type 0 where
  pub dataset : Dataset
  pub file : List ℕ

-- It is the dataset of the number, with its file.
pub record IsSourceAt (datasets : List Dataset) (number : ℕ) (source : Source) : Type 0 where
  pub there : slice_get datasets number ≡ Some source.dataset
  pub file_is : source.dataset.file ≡ Some source.file

-- The dataset of the number has a file; else NoData.
abbrev pub demands_file : List Dataset → ℕ → Unit {0} → ℕ → Course Status (Unit {0})
demands_file datasets place given number =
    and_then (judges (λ dataset. slice_get datasets number ≡ Some dataset) (λ _. ⊥)) (λ dataset. demands (IsSome dataset.file) (NoData dataset.name))

-- Each of the datasets of the numbers has a file.
abbrev pub demands_files : List Dataset → List ℕ → Course Status (Unit {0})
demands_files datasets numbers = each (demands_file datasets) 0 tt numbers

-- The content of the dataset's file has no fault, or it has a first one.
abbrev pub reads_data : Dataset → List ℕ → Course Status (Unit {0})
reads_data dataset bytes =
    judges (λ _. dataset_fault dataset bytes ≡ None)
    (λ refusal. (fault : FileFault) × (dataset_fault dataset bytes ≡ Some fault) × (refusal ≡ BadDataset dataset.name fault))

-- The dataset's file is no longer than a dataset's may be, and its content has no fault.
abbrev pub opens_source : Option Files → Source → Course Status (List ℕ)
opens_source files source =
    and_then (fetches files source.file DATA_LIMIT) (λ bytes. and_then (reads_data source.dataset bytes) (λ _. gives bytes))

-- The file of the dataset of the number is opened.
abbrev pub opens_dataset : Option Files → List Dataset → ℕ → Course Status (List ℕ)
opens_dataset files datasets number = and_then (judges (IsSourceAt datasets number) (λ _. ⊥)) (opens_source files)

-- One file more is opened.
abbrev pub loads_next : Option Files → List Dataset → ℕ → List DatasetBytes → ℕ → Course Status (List DatasetBytes)
loads_next files datasets place so_far number =
    and_then (opens_dataset files datasets number) (λ bytes. gives (so_far ++ record { dataset = number; bytes = bytes } ∷ []))

-- The files of the datasets of the numbers are opened, in order.
abbrev pub loads_files : Option Files → List Dataset → List ℕ → Course Status (List DatasetBytes)
loads_files files datasets numbers = each (loads_next files datasets) 0 [] numbers

-- The facts are those of the files, whose nodes are numbered from 0 on; they are over constants and plain terms.
pub record AreFactsOfFiles (datasets : List Dataset) (contents : List DatasetBytes) (facts : List (Fact Term)) : Type 0 where
  pub next : ℕ
  pub are : AreFactsFrom datasets 0 contents facts next
  pub flat : AreFlat facts

-- The datasets that are needed are found, each has a file, and the files are opened; this gives their facts.
abbrev pub loads : Option Files → List Dataset → (Dataset → Type 0) → Course Status (List (Fact Term))
loads files datasets Needs =
    and_then (judges (AreNeeded datasets Needs) (λ _. ⊥)) (λ numbers.
    and_then (demands_files datasets numbers) (λ _.
    and_then (loads_files files datasets numbers) (λ contents.
    judges (AreFactsOfFiles datasets contents) (λ _. ⊥))))

-- ---- what functions answer

-- The facts to which an atom of one of the queries can go are wanted.
abbrev pub named_by : List Query → Wanted
named_by queries = Asked (map (λ query. (query_of query).body) queries)

-- The number has come at the end, where its dataset is needed.
abbrev pub AddsNeeded : Type 0 → ℕ → List ℕ → List ℕ → Type 0
AddsNeeded Needed number old new = (Needed × (new ≡ old ++ number ∷ [])) ⊎ (¬ Needed × (new ≡ old))

-- The facts are over constants and plain terms, and meet rules that those of the datasets' files meet by law.
pub record AreLawful (datasets : List Dataset) (facts : List (Fact Term)) : Type 0 where
  pub flat : AreFlat facts
  pub met : (rules : List Rule) → AreLaws datasets rules → AreMet facts rules

-- Each of the files is that of a dataset.
abbrev pub AreNumbered : List Dataset → List DatasetBytes → Type 0
AreNumbered datasets files = (file : DatasetBytes) → Contains files file → file.dataset < length datasets

-- The rows of codes stand for what is left of the facts, which meet the laws.
pub record HoldsLeft (datasets : List Dataset) (wanted : Wanted) (facts : List (Fact Term)) (coded : CodedData) : Type 0 where
  pub loaded : Loaded
  pub stand : IsCodedOf loaded coded
  pub leaves : Leaves wanted facts loaded.facts
  pub lawful : AreLawful datasets facts

-- The facts are those of the files, which have no fault, and the rows of codes stand for what is left of them.
pub record HoldsFiles (datasets : List Dataset) (wanted : Wanted) (facts : List (Fact Term)) (files : List DatasetBytes) (coded : CodedData) : Type 0 where
  pub readable : AreReadable datasets files
  pub are : AreFactsOfFiles datasets files facts
  pub left : HoldsLeft datasets wanted facts coded

-- What is loaded holds facts with which the course goes on; or it stops.
abbrev pub Loads : {A : Type 0} → (List (Fact Term) → A → Type 0) → Course Status (List (Fact Term)) → Type 0 → Result A Status → Type 0
Loads Holds course rose (Ok loaded) = (facts : List (Fact Term)) × course.goes facts × Holds facts loaded
Loads Holds course rose (Err refusal) = Stops IsWant (IsCaused rose) course refusal

-- To the names that were asked for came those for which the course asked, up to the facts that what is loaded holds or
-- to its stop.
abbrev pub LoadsAsking : {A : Type 0} → Option (List (List ℕ)) → Option (List (List ℕ)) → (List (Fact Term) → A → Type 0)
    → Course Status (List (Fact Term)) → Result A Status → Type 0
LoadsAsking before after Holds course (Ok loaded) = (facts : List (Fact Term)) × AsksIn before after course (Ok facts) × Holds facts loaded
LoadsAsking before after Holds course (Err refusal) = AsksIn before after course (Err refusal)

-- After what was loaded come the facts of the file of the dataset of the number, with these bytes, as far as they are
-- wanted.
abbrev pub LoadsMore : List Dataset → Wanted → ℕ → List ℕ → CodedData → CodedData → Type 0
LoadsMore datasets wanted number bytes old new =
    (contents : List DatasetBytes) → IsCodedFrom datasets wanted contents old
    → IsCodedFrom datasets wanted (contents ++ record { dataset = number; bytes = bytes } ∷ []) new

-- The rows of codes stand for what is loaded of the files, all of which were opened; or the course stops. To the names
-- that were asked for came those for which it asked.
abbrev pub LoadsFiles : Option Files → List Dataset → Wanted → List ℕ → Type 0 → Option (List (List ℕ)) → Option (List (List ℕ))
    → Result CodedData Status → Type 0
LoadsFiles files datasets wanted numbers rose before after (Ok coded) =
    (contents : List DatasetBytes) × (loads_files files datasets numbers).goes contents × IsCodedFrom datasets wanted contents coded
    × AsksIn before after (loads_files files datasets numbers) (Ok contents)
LoadsFiles files datasets wanted numbers rose before after (Err refusal) =
    Stops IsWant (IsCaused rose) (loads_files files datasets numbers) refusal × AsksIn before after (loads_files files datasets numbers) (Err refusal)
