-- The facts of datasets' files.
use Rattle.std.proofs.Common.{◌≡◌, inl, inr, ℕ, suc, ◌≤◌, ◌<◌, ◌+◌, List, [], ◌∷◌, ◌++◌, length, take, get_or, Option, None, Some, slice_get, Contains, refl}
use Rattle.std.proofs.Common.{map}
use Rattle.std.proofs.Common.{sym, ap, ◌∙◌, subst, append_assoc, append-nil, arith}
use Rattle.std.proofs.lemmas.List.{take_all}
use Rattle.std.proofs.lemmas.List.Elements.{Contains-append_cases}
use Rattle.std.specs.Prelude.{true, false, Result, Ok, Err}
use Rattle.std.specs.Result.{IsErrAnd}
use Rattle.std.proofs.lemmas.Option.{same_Some, slice_get_read, slice_get_within}
use Rattle.esto_mapping.specs.declared.dataset.Dataset.{Dataset}
use Rattle.esto_docmodel.specs.DocumentFacts.{DocFact, value, below, row_of, flat}
use Rattle.esto_docmodel.specs.Encodings.{size, entering, belows, holding, facts_from, facts_of}
use Rattle.esto_docmodel.specs.Shapes.{documents}
use Rattle.esto_docmodel.specs.declared.encode.Encoded.{Encoded}
use Rattle.esto_docmodel.specs.declared.kept.Kept.{Kept}
use Rattle.esto_docs.specs.Encoding.{GivesEncoded}
use Rattle.esto_ports.specs.declared.file_fault.FileError.{FileError}
use Rattle.esto_ports.specs.declared.file_fault.FileError.TheVariants as content
use Rattle.esto_docs.specs.Files.{file_trees, trees_fault}
use Rattle.esto_docmodel.specs.declared.words.DataModel.{DataModel}
use Rattle.esto_stores.specs.Keys.{key_rows, key_fault}
use Rattle.esto_stores.specs.Table.{table_rows, table_fault}
use Rattle.esto_docmodel.specs.Forests.{Label, name, place, Forest, none, kid}
use Rattle.esto_relmodel.specs.RowFacts.{row_fact, AreRowFacts}
use Rattle.esto_semantics.specs.Maps.{AreFlat}
use Rattle.esto_semantics.specs.declared.fact.Fact.{Fact}
use Rattle.esto_semantics.proofs.FactLemmas.{Mentions-append}
use Rattle.esto_term.specs.Kinds.{IsFlat}
use Rattle.esto_term.specs.declared.term.Term.{Term}
use Rattle.esto_term.specs.declared.term.Term.TheVariants.{Const, Plain}
use Rattle.esto_term.proofs.ListLemmas.{Contains-nil, Contains-cases, Contains-map_from, Contains-one, HoldsBelow}
use Rattle.esto_term.proofs.PlaceLemmas.{take-item}
use Rattle.esto_fill.specs.Files.{AddsFile, LoadsFacts, dataset_fault, nodes_in, AreFactsByModel, AreFactsOf, AreFactsFrom, AreReadable, AreWantedOf}
use Rattle.esto_fill.specs.Files.{GivesFacts, HaveRisingNames, IsLoadedFrom, RiseByModel}
use Rattle.esto_fill.specs.Wanted.{IsKeptFor, Leaves, is_wanted}
use Rattle.esto_fill.specs.declared.wanted.Wanted.{Wanted}
use Rattle.esto_fill.specs.declared.wanted.Wanted.TheVariants.{Every}
use Rattle.esto_fill.proofs.WantedLemmas.{AreOver, chosen, kept_leaves, leaves_append, leaves_flat}
use Rattle.esto_fill.specs.declared.loaded.Loaded.{Loaded}
use Rattle.esto_fill.specs.declared.datasets.DatasetBytes.{DatasetBytes}
use Rattle.esto_fill.specs.declared.datasets.LoadError.{LoadError}
use Rattle.esto_fill.specs.declared.datasets.LoadError.TheVariants.{Fault, OutOfMemory}

-- ---- facts of rows are over constants

pub rows_flat : (relation : ℕ) (rows : List (List (List ℕ))) (facts : List (Fact Term)) → AreRowFacts relation rows facts → AreFlat facts
rows_flat relation rows facts (kept, once, is) term (fact, inside, in_fact) =
    let from = Contains-map_from (row_fact relation) kept fact (subst (λ those. Contains those fact) is inside) in
    let cell = Contains-map_from Const from.0 term (subst (λ (it : Fact Term). Contains it.terms term) (sym from.2) in_fact) in
    inl (cell.0, sym cell.2)

-- ---- facts of documents are over constants and plain terms

abbrev HasFlat : DocFact Term → Type 0
HasFlat fact = (term : Term) → Contains (row_of fact) term → IsFlat term

no_term : (term : Term) → Contains [] term → IsFlat term
no_term term inside = absurd (Contains-nil term inside)

one_term : (first : Term) (rest : List Term) → IsFlat first → ((term : Term) → Contains rest term → IsFlat term) → (term : Term) → Contains (first ∷ rest) term
    → IsFlat term
one_term first rest own others term inside = elim (Contains-cases first rest term inside) [
  | inl is ↦ subst IsFlat is own
  | inr later ↦ others term later
]

number : (n : ℕ) → IsFlat (Plain n)
number n = inr (n, refl)

text : (bytes : List ℕ) → IsFlat (Const bytes)
text bytes = inl (bytes, refl)

entering_flat : (above : List ℕ) (label : Label) (n : ℕ) → HasFlat (entering above label n)
entering_flat [] label n = one_term (Plain n) [] (number n) no_term
entering_flat (parent ∷ above) (name k) n =
    one_term (Plain parent) (Const k ∷ Plain n ∷ []) (number parent) (one_term (Const k) (Plain n ∷ []) (text k) (one_term (Plain n) [] (number n) no_term))
entering_flat (parent ∷ above) place n = one_term (Plain parent) (Plain n ∷ []) (number parent) (one_term (Plain n) [] (number n) no_term)

belows_flat : (above : List ℕ) (n : ℕ) (fact : DocFact Term) → Contains (belows above n) fact → HasFlat fact
belows_flat [] n fact inside = absurd (Contains-nil fact inside)
belows_flat (parent ∷ above) n fact inside = elim (Contains-append_cases (belows above n) (below (Plain parent) (Plain n) ∷ []) fact inside) [
  | inl there ↦ belows_flat above n fact there
  | inr last ↦ elim (Contains-cases (below (Plain parent) (Plain n)) [] fact last) [
    | inl is ↦ subst HasFlat is (one_term (Plain parent) (Plain n ∷ []) (number parent) (one_term (Plain n) [] (number n) no_term))
    | inr later ↦ absurd (Contains-nil fact later)
  ]
]

holding_flat : (content : Option (List ℕ)) (n : ℕ) (fact : DocFact Term) → Contains (holding content n) fact → HasFlat fact
holding_flat None n fact inside = absurd (Contains-nil fact inside)
holding_flat (Some bytes) n fact inside = elim (Contains-cases (value (Plain n) (Const bytes)) [] fact inside) [
  | inl is ↦ subst HasFlat is (one_term (Plain n) (Const bytes ∷ []) (number n) (one_term (Const bytes) [] (text bytes) no_term))
  | inr later ↦ absurd (Contains-nil fact later)
]

forest_flat : (above : List ℕ) (n : ℕ) (forest : Forest) (fact : DocFact Term) → Contains (facts_from above n forest) fact → HasFlat fact
forest_flat above n none fact inside = absurd (Contains-nil fact inside)
forest_flat above n (kid label content inside_it rest) fact inside = elim (Contains-cases (entering above label n)
    (belows above n ++ (holding content n ++ (facts_from (n ∷ above) (suc n) inside_it ++ facts_from above (suc n + size inside_it) rest))) fact inside) [
      | inl is ↦ subst HasFlat is (entering_flat above label n)
      | inr later ↦ elim (Contains-append_cases (belows above n)
          (holding content n ++ (facts_from (n ∷ above) (suc n) inside_it ++ facts_from above (suc n + size inside_it) rest)) fact later) [
            | inl there ↦ belows_flat above n fact there
            | inr after ↦ elim (Contains-append_cases (holding content n)
                (facts_from (n ∷ above) (suc n) inside_it ++ facts_from above (suc n + size inside_it) rest) fact after) [
                  | inl there ↦ holding_flat content n fact there
                  | inr others ↦ elim (Contains-append_cases (facts_from (n ∷ above) (suc n) inside_it) (facts_from above (suc n + size inside_it) rest) fact
                      others) [
                        | inl there ↦ forest_flat (n ∷ above) (suc n) inside_it fact there
                        | inr there ↦ forest_flat above (suc n + size inside_it) rest fact there
                      ]
                ]
          ]
    ]

pub documents_flat : (base first : ℕ) (forest : Forest) → AreFlat (facts_of base first forest)
documents_flat base first forest term (fact, inside, in_fact) =
    let from = Contains-map_from (flat base) (facts_from [] first forest) fact inside in
    forest_flat [] first forest from.0 from.1 term (subst (λ (it : Fact Term). Contains it.terms term) (sym from.2) in_fact)

pub append_flat : (facts others : List (Fact Term)) → AreFlat facts → AreFlat others → AreFlat (facts ++ others)
append_flat facts others one other term mentioned = elim (Mentions-append facts others term mentioned)
    [ inl there ↦ one term there | inr there ↦ other term there ]

-- ---- one file more

pub file_more : (datasets : List Dataset) (first : ℕ) (files : List DatasetBytes) (facts own : List (Fact Term)) (next : ℕ) (file : DatasetBytes)
    (dataset : Dataset) → AreFactsFrom datasets first files facts next → slice_get datasets file.dataset ≡ Some dataset
    → AreFactsOf dataset file.bytes next own → AreFactsFrom datasets first (files ++ file ∷ []) (facts ++ own) (next + nodes_in dataset file.bytes)
file_more datasets first [] facts own next file dataset (empty, same) there are = (
  dataset,
  own,
  [],
  there,
  subst (λ n. AreFactsOf dataset file.bytes n own) same are,
  (refl, ap (λ n. n + nodes_in dataset file.bytes) same),
  ap (λ those. those ++ own) empty ∙ sym (append-nil own),
)
file_more datasets first (head ∷ files) facts own next file dataset (its, some, others, at, is, rest, whole) there are = (
  its,
  some,
  others ++ own,
  at,
  is,
  file_more datasets (first + nodes_in its head.bytes) files others own next file dataset rest there are,
  ap (λ those. those ++ own) whole ∙ append_assoc some others own,
)

-- ---- what the readers give

rows_over : (relation : ℕ) (rows : List (List (List ℕ))) (facts : List (Fact Term)) → AreRowFacts relation rows facts → AreOver relation facts
rows_over relation rows facts (kept, once, is) fact inside =
    let from = Contains-map_from (row_fact relation) kept fact (subst (λ those. Contains those fact) is inside) in
    ap (λ (it : Fact Term). it.relation) (sym from.2)

module _ (dataset : Dataset) (wanted : Wanted) (bytes : List ℕ) (first : ℕ) (rows : List (List (List ℕ))) (facts some : List (Fact Term))
    (are : AreRowFacts dataset.base rows facts) (all : is_wanted wanted dataset.base ≡ true → some ≡ facts)
    (none : is_wanted wanted dataset.base ≡ false → some ≡ []) where
  some_of : Leaves wanted facts some
  some_of = chosen wanted dataset.base facts some (rows_over dataset.base rows facts are) all none

  some_flat : AreFlat some
  some_flat = leaves_flat wanted facts some some_of (rows_flat dataset.base rows facts are)

  pub table_gives : (table_fault dataset.columns bytes ≡ None) × (rows ≡ table_rows dataset.columns bytes)
      → GivesFacts DataModel.Table dataset wanted bytes first (Ok (record { facts = some; next = first }))
  table_gives (clear, read) = (
    clear,
    record {
      facts = facts;
      are = subst (λ those. AreRowFacts dataset.base those facts) read are;
      some = some_of;
      next = omega arith;
      flat = some_flat;
      rising = tt;
    },
  )

  pub keys_give : (key_fault 3 bytes ≡ None) × (rows ≡ key_rows bytes)
      → GivesFacts DataModel.Keys dataset wanted bytes first (Ok (record { facts = some; next = first }))
  keys_give (clear, read) = (
    clear,
    record {
      facts = facts;
      are = subst (λ those. AreRowFacts dataset.base those facts) read are;
      some = some_of;
      next = omega arith;
      flat = some_flat;
      rising = tt;
    },
  )

pub documents_give : (dataset : Dataset) (wanted : Wanted) (bytes : List ℕ) (first : ℕ) (relations : Kept) → IsKeptFor wanted dataset.base relations
    → (result : Result Encoded FileError)
    → GivesEncoded relations first (file_trees dataset.layout bytes) (trees_fault dataset.layout bytes) result
    → GivesFacts DataModel.Documents dataset wanted bytes first result
documents_give dataset wanted bytes first relations kept (Ok encoded) (clear, are) =
    let all = facts_from [] first (documents (file_trees dataset.layout bytes)) in
    let some = subst (Leaves wanted (map (flat dataset.base) all)) (sym are.facts) (kept_leaves wanted dataset.base relations kept all) in (
      clear,
      record {
        facts = facts_of dataset.base first (documents (file_trees dataset.layout bytes));
        are = refl;
        some = some;
        next = are.next;
        flat = leaves_flat wanted _ encoded.facts some (documents_flat dataset.base first (documents (file_trees dataset.layout bytes)));
        rising = are.rising;
      },
    )
documents_give dataset wanted bytes first relations kept (Err (content.Fault found)) fault = fault
documents_give dataset wanted bytes first relations kept (Err content.OutOfMemory) want = tt

-- ---- all files

model_flat : (model : DataModel) (dataset : Dataset) (bytes : List ℕ) (first : ℕ) (facts : List (Fact Term))
    → AreFactsByModel model dataset bytes first facts → AreFlat facts
model_flat DataModel.Table dataset bytes first facts are = rows_flat dataset.base (table_rows dataset.columns bytes) facts are
model_flat DataModel.Documents dataset bytes first facts are =
    subst AreFlat (sym are) (documents_flat dataset.base first (documents (file_trees dataset.layout bytes)))
model_flat DataModel.Keys dataset bytes first facts are = rows_flat dataset.base (key_rows bytes) facts are

-- the facts of files are over constants and plain terms
pub facts_flat : (datasets : List Dataset) (first : ℕ) (files : List DatasetBytes) (facts : List (Fact Term)) (next : ℕ)
    → AreFactsFrom datasets first files facts next → AreFlat facts
facts_flat datasets first [] facts next (empty, ends) = subst AreFlat (sym empty) (λ term (fact, inside, at). absurd (Contains-nil fact inside))
facts_flat datasets first (file ∷ files) facts next (dataset, own, others, there, are, from, whole) =
    subst AreFlat (sym whole) (append_flat own others (model_flat dataset.model dataset file.bytes first own are)
    (facts_flat datasets (first + nodes_in dataset file.bytes) files others next from))

module _ (datasets : List Dataset) (files : List DatasetBytes) where
  -- none of the files so far has a fault
  abbrev pub AreReadableBelow : ℕ → Type 0
  AreReadableBelow count = HoldsBelow (λ _ (file : DatasetBytes). (dataset : Dataset) → slice_get datasets file.dataset ≡ Some dataset
      → dataset_fault dataset file.bytes ≡ None) files count

  pub loaded_more : (count : ℕ) (file : DatasetBytes) (old new : Loaded) → count < length files → file ≡ get_or files count file
      → IsLoadedFrom datasets Every (take count files) old
      → ((those : List DatasetBytes) → IsLoadedFrom datasets Every those old → IsLoadedFrom datasets Every (those ++ file ∷ []) new)
      → IsLoadedFrom datasets Every (take (count + 1) files) new
  loaded_more count file old new within read before step =
      subst (λ those. IsLoadedFrom datasets Every those new) (sym (take-item files count file within read))
      (step (take count files) before)

  pub all_readable : (count : ℕ) → length files ≤ count → AreReadableBelow count → AreReadable datasets files
  all_readable count past fine at file dataset there = fine at file
      (let within = slice_get_within files at file there in omega (arith, within, past)) there dataset

-- where all relations are wanted, all facts are loaded
pub loaded_all : (datasets : List Dataset) (files : List DatasetBytes) (loaded : Loaded) → IsLoadedFrom datasets Every files loaded
    → AreFactsFrom datasets 0 files loaded.facts loaded.next
loaded_all datasets files loaded (facts, are, some, rising) =
    subst (λ those. AreFactsFrom datasets 0 files those loaded.next) (sym some) are

-- the first file that has a fault, where a loop finds it
pub first_faulty : (datasets : List Dataset) (files items : List DatasetBytes) → items ≡ files → (count : ℕ) (file : DatasetBytes) → count < length items
    → file ≡ get_or items count file → AreReadableBelow datasets items count → (loaded : Loaded) (error : LoadError) (result : Result Loaded LoadError)
    → IsErrAnd result (λ handed. handed ≡ error) → AddsFile datasets file loaded (Err error) → LoadsFacts datasets files result
first_faulty datasets files items same count file within read before loaded error (Ok more) handed adds = absurd handed
first_faulty datasets files items same count file within read before loaded OutOfMemory (Err own) handed adds =
    subst (λ (it : LoadError). LoadsFacts datasets files (Err it)) (sym handed) (tt {0})
first_faulty datasets files items same count file within read before loaded (Fault its_number fault) (Err own) handed (is, (dataset, there, at_fault)) =
    subst (λ (it : LoadError). LoadsFacts datasets files (Err it)) (sym handed) (record {
      place = count;
      file = file;
      dataset = dataset;
      there = subst (λ (those : List DatasetBytes). slice_get those count ≡ Some file) same
          (slice_get_read items (length items) count file refl within read);
      same = sym is;
      is = subst (λ n. slice_get datasets n ≡ Some dataset) (sym is) there;
      at_fault = at_fault;
      before = λ earlier other its less at at_its. before earlier other less
          (subst (λ (those : List DatasetBytes). slice_get those earlier ≡ Some other) (sym same) at) its at_its;
    })

-- all files are loaded, where the loop goes over a list that is theirs
pub all_loaded : (datasets : List Dataset) (files items : List DatasetBytes) (count : ℕ) (loaded : Loaded) → items ≡ files → length items ≤ count
    → IsLoadedFrom datasets Every (take count items) loaded → AreReadableBelow datasets items count
    → AreReadable datasets files × AreFactsFrom datasets 0 files loaded.facts loaded.next
all_loaded datasets files items count loaded same past are fine =
    subst (λ those. AreReadable datasets those × AreFactsFrom datasets 0 those loaded.facts loaded.next) same (
      all_readable datasets items count past fine,
      loaded_all datasets items loaded (subst (λ those. IsLoadedFrom datasets Every those loaded) (take_all count items past) are),
    )

pub load_more : (datasets : List Dataset) (wanted : Wanted) (files : List DatasetBytes) (number : ℕ) (bytes : List ℕ) (dataset : Dataset) (old : Loaded)
    (own : Encoded) (facts : List (Fact Term)) → IsLoadedFrom datasets wanted files old → slice_get datasets number ≡ Some dataset
    → AreWantedOf dataset.model dataset wanted bytes old.next own → facts ≡ old.facts ++ own.facts
    → (all : List (Fact Term)) × AreFactsFrom datasets 0 (files ++ record { dataset = number; bytes = bytes } ∷ []) all own.next
    × Leaves wanted all facts × HaveRisingNames datasets (files ++ record { dataset = number; bytes = bytes } ∷ [])
load_more datasets wanted files number bytes dataset old own facts (before, were, some, rising) there are whole = (
  before ++ are.facts,
  subst (AreFactsFrom datasets 0 (files ++ record { dataset = number; bytes = bytes } ∷ []) (before ++ are.facts)) (sym are.next)
      (file_more datasets 0 files before are.facts old.next (record { dataset = number; bytes = bytes }) dataset were there are.are),
  subst (Leaves wanted (before ++ are.facts)) (sym whole) (leaves_append wanted before old.facts are.facts own.facts some are.some),
  λ file its inside at. elim (Contains-append_cases files (record { dataset = number; bytes = bytes } ∷ []) file inside) [
    | inl early ↦ rising file its early at
    | inr late ↦
        let is : record { dataset = number; bytes = bytes } ≡ file = Contains-one (record { dataset = number; bytes = bytes }) file late in
        last file its is at
  ],
)
  where
    last : (file : DatasetBytes) (its : Dataset) → record { dataset = number; bytes = bytes } ≡ file → slice_get datasets file.dataset ≡ Some its
        → RiseByModel its.model its file.bytes
    last file its is at =
        let same : dataset ≡ its = same_Some dataset its (sym there ∙ ap (λ (it : DatasetBytes). slice_get datasets it.dataset) is ∙ at) in
        subst (λ (it : Dataset). RiseByModel it.model it file.bytes) same
        (subst (λ (it : DatasetBytes). RiseByModel dataset.model dataset it.bytes) is are.rising)
