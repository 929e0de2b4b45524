-- The files of datasets have facts, or one of them is the first that has a fault.
use Rattle.std.proofs.Common.{◌≡◌, ◌⊎◌, ℕ, zero, suc, ◌+◌, ◌<◌, inl, inr, List, [], ◌∷◌, ◌++◌, length, map, Option, Some, None, refl, sym, subst, ◌∙◌, arith}
use Rattle.std.specs.Prelude.{All, Contains, slice_get, Ok, Err}
use Rattle.std.specs.List.{AllByRecursion}
use Rattle.std.proofs.lemmas.List.Elements.{recursion_from_All}
use Rattle.esto_mapping.specs.declared.dataset.Dataset.{Dataset}
use Rattle.esto_docmodel.specs.Encodings.{facts_of}
use Rattle.esto_docmodel.specs.Shapes.{documents}
use Rattle.esto_docs.specs.Files.{file_trees}
use Rattle.esto_fill.proofs.FileLemmas.{rows_flat, documents_flat, append_flat}
use Rattle.esto_fill.specs.Files.{dataset_fault, nodes_in, AreFactsByModel, AreFactsFrom, IsFirstFault, AreReadable, LoadsFacts}
use Rattle.esto_fill.specs.declared.datasets.DatasetBytes.{DatasetBytes}
use Rattle.esto_fill.specs.declared.datasets.LoadError.TheVariants.{Fault}
use Rattle.esto_fill.specs.declared.loaded.Loaded.{Loaded}
use Rattle.esto_ports.specs.declared.file_fault.FileFault.{FileFault}
use Rattle.esto_docmodel.specs.declared.words.DataModel.{DataModel}
use Rattle.esto_docmodel.specs.declared.words.DataModel.TheVariants.{Table, Documents, Keys}
use Rattle.esto_relmodel.proofs.OnceLemmas.{rows_once}
use Rattle.esto_relmodel.specs.RowFacts.{row_fact, AreRowFacts}
use Rattle.esto_semantics.specs.Maps.{AreFlat}
use Rattle.esto_semantics.specs.declared.fact.Fact.{Fact}
use Rattle.esto_stores.specs.Keys.{key_rows}
use Rattle.esto_stores.specs.Table.{table_rows}
use Rattle.esto_term.proofs.ListLemmas.{thing_at}
use Rattle.esto_term.specs.declared.term.Term.{Term}

row_facts : (relation : ℕ) (rows : List (List (List ℕ))) → (facts : List (Fact Term)) × AreRowFacts relation rows facts
row_facts relation rows =
    let (kept, are) = rows_once rows in (map (row_fact relation) kept, (kept, are, refl))

-- ---- one file

facts_by_model : (model : DataModel) (dataset : Dataset) (bytes : List ℕ) (first : ℕ)
    → (facts : List (Fact Term)) × AreFactsByModel model dataset bytes first facts × AreFlat facts
facts_by_model Table dataset bytes first =
    let (facts, are) = row_facts dataset.base (table_rows dataset.columns bytes) in
    (facts, are, rows_flat dataset.base (table_rows dataset.columns bytes) facts are)
facts_by_model Documents dataset bytes first = (
  facts_of dataset.base first (documents (file_trees dataset.layout bytes)),
  refl,
  documents_flat dataset.base first (documents (file_trees dataset.layout bytes)),
)
facts_by_model Keys dataset bytes first =
    let (facts, are) = row_facts dataset.base (key_rows bytes) in (facts, are, rows_flat dataset.base (key_rows bytes) facts are)

-- ---- several files

module _ (datasets : List Dataset) where
  -- each file is that of one of the datasets
  abbrev pub AreOf : List DatasetBytes → Type 0
  AreOf files = AllByRecursion (λ file. file.dataset < length datasets) files

  -- files have facts, whatever their faults are
  pub facts_from : (first : ℕ) (files : List DatasetBytes) → AreOf files
      → (facts : List (Fact Term)) × (next : ℕ) × AreFactsFrom datasets first files facts next × AreFlat facts
  facts_from first [] are = ([], first, (refl, refl), λ term mentioned. absurd (no_fact mentioned.0 mentioned.1))
    where
      no_fact : (fact : Fact Term) → Contains [] fact → ⊥
      no_fact fact (place, below, at) = omega (arith, below)
  facts_from first (file ∷ files) are =
      let (dataset, at) = thing_at datasets file.dataset are.0 in
      let (own, is, flat) = facts_by_model dataset.model dataset file.bytes first in
      let (others, next, more, rest_flat) = facts_from (first + nodes_in dataset file.bytes) files are.1 in
      (own ++ others, next, (dataset, own, others, at, is, more, refl), append_flat own others flat rest_flat)

  -- no file has a fault, or one is the first
  faults : (files : List DatasetBytes) → AreOf files
      → AreReadable datasets files ⊎ ((number : ℕ) × (fault : FileFault) × IsFirstFault datasets files number fault)
  faults [] are = inl (λ place file dataset there is. absurd (no_file place file there))
    where
      no_file : (place : ℕ) (file : DatasetBytes) → slice_get [] place ≡ Some file → ⊥
      no_file place file there = cc
  faults (file ∷ files) are = let (dataset, at) = thing_at datasets file.dataset are.0 in
      by dataset at (dataset_fault dataset file.bytes) refl (faults files are.1)
    where
      first_free : (dataset : Dataset) → slice_get datasets file.dataset ≡ Some dataset → dataset_fault dataset file.bytes ≡ None → (its : Dataset)
          → slice_get datasets file.dataset ≡ Some its → dataset_fault its file.bytes ≡ None
      first_free dataset at free its is =
          let both : Some dataset ≡ Some its = sym at ∙ is in
          let same : dataset ≡ its = cc in
          subst (λ (d : Dataset). dataset_fault d file.bytes ≡ None) same free

      by : (dataset : Dataset) → slice_get datasets file.dataset ≡ Some dataset → (found : Option FileFault) → dataset_fault dataset file.bytes ≡ found
          → (AreReadable datasets files ⊎ ((number : ℕ) × (fault : FileFault) × IsFirstFault datasets files number fault))
          → AreReadable datasets (file ∷ files) ⊎ ((number : ℕ) × (fault : FileFault) × IsFirstFault datasets (file ∷ files) number fault)
      by dataset at (Some fault) told later = inr (
        file.dataset,
        fault,
        record {
          place = 0;
          file = file;
          dataset = dataset;
          there = refl;
          same = refl;
          is = at;
          at_fault = told;
          before = λ earlier other its less. absurd (omega (arith, less));
        },
      )
      by dataset at None told (inl readable) = inl (λ place other its there is. clear place other its there is)
        where
          clear : (place : ℕ) (other : DatasetBytes) (its : Dataset) → slice_get (file ∷ files) place ≡ Some other → slice_get datasets other.dataset ≡ Some its
              → dataset_fault its other.bytes ≡ None
          clear zero other its there is =
              let same : file ≡ other = cc in
              subst (λ (f : DatasetBytes). dataset_fault its f.bytes ≡ None) same
              (first_free dataset at told its (subst (λ (f : DatasetBytes). slice_get datasets f.dataset ≡ Some its) (sym same) is))
          clear (suc place) other its there is = readable place other its there is
      by dataset at None told (inr (number, fault, first)) = inr (
        number,
        fault,
        record {
          place = suc first.place;
          file = first.file;
          dataset = first.dataset;
          there = first.there;
          same = first.same;
          is = first.is;
          at_fault = first.at_fault;
          before = before;
        },
      )
        where
          before : (earlier : ℕ) (other : DatasetBytes) (its : Dataset) → earlier < suc first.place → slice_get (file ∷ files) earlier ≡ Some other
              → slice_get datasets other.dataset ≡ Some its → dataset_fault its other.bytes ≡ None
          before zero other its less there is =
              let same : file ≡ other = cc in
              subst (λ (f : DatasetBytes). dataset_fault its f.bytes ≡ None) same
              (first_free dataset at told its (subst (λ (f : DatasetBytes). slice_get datasets f.dataset ≡ Some its) (sym same) is))
          before (suc earlier) other its less there is = first.before earlier other its (omega (arith, less)) there is

  pub facts_or_fault : (files : List DatasetBytes) → All (λ file. file.dataset < length datasets) files
      → ((loaded : Loaded) × LoadsFacts datasets files (Ok loaded))
      ⊎ ((number : ℕ) × (fault : FileFault) × LoadsFacts datasets files (Err (Fault number fault)))
  facts_or_fault files all =
      let are : AreOf files = recursion_from_All (λ file. file.dataset < length datasets) files all in
      elim (faults files are) [
        | inr (number, fault, first) ↦ inr (number, fault, first)
        | inl readable ↦
            let (facts, next, from, flat) = facts_from 0 files are in
            inl (
              record { facts = facts; next = next; sound = ∣ flat ∣₁ },
              (readable, from),
            )
      ]
