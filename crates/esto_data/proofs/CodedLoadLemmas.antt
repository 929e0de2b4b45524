-- Facts of files that are put into rows of codes.
use Rattle.std.proofs.Common.{◌≡◌, ◌↔◌, ◌+◌, ℕ, List, [], ◌∷◌, ◌++◌, length, map, true, false, Some, None, slice_get}
use Rattle.std.proofs.Common.{Contains, refl, sym, ap, ◌∙◌, subst, append-nil, arith}
use Rattle.std.specs.Prelude.{OnOk, Result, Ok, Err, codes}
use Rattle.std.proofs.lemmas.Bool.{false≢true}
use Rattle.std.proofs.lemmas.Option.{same_Some}
use Rattle.esto_mapping.specs.Datasets.{StandFrom, model_relations, part, relations_of}
use Rattle.esto_mapping.specs.declared.dataset.Dataset.{Dataset}
use Rattle.esto_coded.specs.Coded.{Coded, HasPlace, OrderedStand, StandFor, StandInOrder, arities_of}
use Rattle.esto_columns.specs.Interned.{AreCodedRows}
use Rattle.esto_docmodel.specs.DocumentFacts.{DocFact, root, field, item, value, below, flat}
use Rattle.esto_docmodel.specs.Encodings.{kept_of, size}
use Rattle.esto_docmodel.specs.Shapes.{documents}
use Rattle.esto_docmodel.specs.declared.encode.Encoded.{Encoded}
use Rattle.esto_docmodel.specs.declared.kept.Kept.{Kept}
use Rattle.esto_docmodel.specs.declared.tree.Tree.{Tree}
use Rattle.esto_docmodel.specs.Putting.{PutsDocuments}
use Rattle.esto_docs.specs.Files.{file_trees, trees_fault}
use Rattle.esto_ports.specs.declared.file_fault.FileError.{FileError}
use Rattle.esto_ports.specs.declared.file_fault.FileError.TheVariants as content
use Rattle.esto_query.specs.declared.schema.Relation.{Relation}
use Rattle.esto_docmodel.specs.declared.words.DataModel.{DataModel}
use Rattle.esto_docmodel.specs.declared.words.DataModel.TheVariants.{Table, Documents, Keys}
use Rattle.esto_relmodel.specs.RowFacts.{AreRowFacts, row_fact}
use Rattle.esto_semantics.specs.declared.fact.Fact.{Fact}
use Rattle.esto_stores.specs.Keys.{key_fault, key_rows}
use Rattle.esto_stores.specs.Rows.{Row}
use Rattle.esto_stores.specs.Table.{table_fault, table_rows}
use Rattle.esto_term.proofs.ListLemmas.{Contains-nil, map_at}
use Rattle.esto_term.specs.declared.term.Term.{Term}
use Rattle.esto_data.specs.CodedParts.{HasPlaces, HasRelations, Puts, PutsEncoded, PutsFile, PutsKept, PutsRead, PutsTrees}
use Rattle.esto_data.specs.Coding.{IsCodedFrom, IsOver, StandKept}
use Rattle.esto_fill.specs.Files.{AreWantedOf, FindsFault, fault_by_model}
use Rattle.esto_fill.specs.Wanted.{IsKeptFor, is_wanted}
use Rattle.esto_data.specs.declared.coded_data.CodedData.{CodedData}
use Rattle.esto_fill.specs.declared.datasets.DatasetBytes.{DatasetBytes}
use Rattle.esto_fill.specs.declared.wanted.Wanted.{Wanted}
use Rattle.esto_fill.proofs.FileLemmas.{append_flat, documents_give, keys_give, load_more, table_gives}
use Rattle.esto_relmodel.proofs.OnceLemmas.{keep_both, keep_itself, keep_on, keep_once, rows_once}
use Rattle.esto_semantics.proofs.FactLemmas.{decided_fact}
use Rattle.esto_semantics.proofs.TermLemmas.{decided_term}
use Rattle.esto_fill.proofs.ValueLemmas.{flat_kept}
use Rattle.esto_fill.proofs.WantedLemmas.{leaves_none}

-- ---- facts read as sets

-- rows of codes stand for whichever list has the same facts
pub stand_same : (coded : Coded) (facts others : List (Fact Term)) → ((fact : Fact Term) → Contains facts fact ↔ Contains others fact) → StandFor coded facts
    → StandFor coded others
stand_same coded facts others same stand = record {
  has = λ fact inside. stand.has fact ((same fact).1 inside);
  only = λ relation codes inside.
      let own = stand.only relation codes inside in (own.0, (same own.0).0 own.1, own.2, own.3);
}

-- nothing is put
pub puts_none : (coded : CodedData) → Puts [] coded coded
puts_none coded = record {
  more = [];
  ordered = λ facts stand. subst (StandInOrder coded.facts) (sym (append-nil facts)) stand;
  kept = keep_itself [];
  arities = refl;
}

-- rows that are coded, and put where they are coded
pub coded_put : (relation : ℕ) (rows : List Row) (codes : List (List ℕ)) (old : CodedData) (middle last : Coded)
    → ((facts : List (Fact Term)) → StandInOrder old.facts facts → StandInOrder middle facts) → arities_of middle ≡ arities_of old.facts
    → AreCodedRows middle.texts codes rows
    → ((list : List Row) → AreCodedRows middle.texts codes list → (facts : List (Fact Term)) → StandInOrder middle facts
    → StandInOrder last (facts ++ map (row_fact relation) list))
    → arities_of last ≡ arities_of middle → Puts (map (row_fact relation) rows) old (record { facts = last; next = old.next })
coded_put relation rows codes old middle last kept same are puts more = record {
  more = map (row_fact relation) rows;
  ordered = λ facts stand. puts rows are facts (kept facts stand);
  kept = keep_itself (map (row_fact relation) rows);
  arities = more ∙ same;
}

-- ---- rows, each once

-- of the facts of the rows, each row once, those are put that are wanted; and no node
abbrev PutsRows : Wanted → ℕ → List Row → CodedData → CodedData → Type 0
PutsRows wanted relation rows old new =
    (facts own : List (Fact Term)) × AreRowFacts relation rows facts × (is_wanted wanted relation ≡ true → own ≡ facts)
    × (is_wanted wanted relation ≡ false → own ≡ []) × Puts own old new × (new.next ≡ old.next)

module _ (wanted : Wanted) (relation : ℕ) (rows : List Row) where
  -- where the relation is wanted, the facts of the rows each once are put
  rows_put : (old new : CodedData) → is_wanted wanted relation ≡ true → new.next ≡ old.next → Puts (map (row_fact relation) rows) old new
      → PutsRows wanted relation rows old new
  rows_put old new told next puts =
      let (kept, once) = rows_once rows in
      let facts = map (row_fact relation) kept in (
        facts,
        facts,
        (kept, once, refl),
        (λ _. refl),
        (λ none. absurd (false≢true (sym none ∙ told))),
        record {
          more = puts.more;
          ordered = puts.ordered;
          kept = keep_on puts.more (map (row_fact relation) rows) facts puts.kept (keep_once (row_fact relation) rows kept once);
          arities = puts.arities;
        },
        next,
      )

  -- and where it is not, none
  rows_left : (coded : CodedData) → is_wanted wanted relation ≡ false → PutsRows wanted relation rows coded coded
  rows_left coded told =
      let (kept, once) = rows_once rows in (
        map (row_fact relation) kept,
        [],
        (kept, once, refl),
        (λ want. absurd (false≢true (sym told ∙ want))),
        (λ _. refl),
        puts_none coded,
        refl,
      )

-- ---- the relations of a dataset

-- a dataset of the catalogue has its relations there
pub has_relations : (schema : List Relation) (dataset : Dataset) (coded : CodedData) → IsOver schema coded
    → StandFrom schema dataset.base (relations_of dataset) → HasRelations dataset coded
has_relations schema dataset coded over stands number relation there =
    ap (λ those. slice_get those (dataset.base + number)) over
    ∙ map_at (λ (it : Relation). it.arity) schema (dataset.base + number) relation (stands number relation there)

module _ (dataset : Dataset) (coded : CodedData) (relations : HasRelations dataset coded) where
  -- the relations, where it is of this model
  of_model : (model : DataModel) → dataset.model ≡ model → (number : ℕ) (relation : Relation)
      → slice_get (model_relations dataset.name (length dataset.columns) model) number ≡ Some relation
      → slice_get (arities_of coded.facts) (dataset.base + number) ≡ Some relation.arity
  of_model model is number relation there =
      relations number relation (ap (λ it. slice_get (model_relations dataset.name (length dataset.columns) it) number) is ∙ there)

  -- the relation of a table has as many columns
  pub table_place : dataset.model ≡ Table → slice_get (arities_of coded.facts) dataset.base ≡ Some (length dataset.columns)
  table_place is =
      ap (slice_get (arities_of coded.facts)) (omega arith)
      ∙ of_model Table is 0 (record { name = dataset.name; arity = length dataset.columns }) refl

  -- that of keys has three
  pub keys_place : dataset.model ≡ Keys → slice_get (arities_of coded.facts) dataset.base ≡ Some 3
  keys_place is = ap (slice_get (arities_of coded.facts)) (omega arith) ∙ of_model Keys is 0 (part dataset.name (codes "pair") 3) refl

  -- and each fact of documents has its place
  pub documents_places : dataset.model ≡ Documents → (relations : Kept) → relations.base ≡ dataset.base → HasPlaces relations coded
  documents_places is kept base fact =
      subst (λ it. HasPlace coded.facts (flat it fact)) (sym base) (place fact)
    where
      place : (fact : DocFact Term) → HasPlace coded.facts (flat dataset.base fact)
      place (root n) = of_model Documents is 0 (part dataset.name (codes "root") 1) refl
      place (field p k n) = of_model Documents is 1 (part dataset.name (codes "field") 3) refl
      place (item p n) = of_model Documents is 2 (part dataset.name (codes "item") 2) refl
      place (value n text) = of_model Documents is 3 (part dataset.name (codes "value") 2) refl
      place (below a n) = of_model Documents is 4 (part dataset.name (codes "below") 2) refl

-- ---- documents

-- the documents whose facts the rows of codes have gained are put
pub gained_put : (relations : Kept) (trees : List Tree) (old : CodedData) (facts : Coded) (next : ℕ)
    → PutsDocuments StandInOrder (λ (it : Coded). Some (arities_of it)) relations trees old.next next old.facts facts
    → PutsKept relations trees old (record { facts = facts; next = next })
gained_put relations trees old facts next puts = record {
  puts = record {
    more = kept_of relations old.next (documents trees);
    ordered = puts.facts.held;
    kept = keep_itself (kept_of relations old.next (documents trees));
    arities = same_Some (arities_of facts) (arities_of old.facts) puts.facts.same;
  };
  next = puts.next;
  rising = puts.rising;
}

-- ---- what a file gives

module _ (dataset : Dataset) (wanted : Wanted) (bytes : List ℕ) (old new : CodedData) where
  of_table : PutsRows wanted dataset.base (table_rows dataset.columns bytes) old new → table_fault dataset.columns bytes ≡ None
      → PutsFile Table dataset wanted bytes old new (Ok tt)
  of_table (facts, own, are, all, none, puts, next) clear =
      let given = table_gives dataset wanted bytes old.next (table_rows dataset.columns bytes) facts own are all none (clear, refl) in
      (given.0, (record { facts = own; next = old.next }, given.1, (puts, next)))

  of_keys : PutsRows wanted dataset.base (key_rows bytes) old new → key_fault 3 bytes ≡ None → PutsFile Keys dataset wanted bytes old new (Ok tt)
  of_keys (facts, own, are, all, none, puts, next) clear =
      let given = keys_give dataset wanted bytes old.next (key_rows bytes) facts own are all none (clear, refl) in
      (given.0, (record { facts = own; next = old.next }, given.1, (puts, next)))

  -- the rows of a file whose relation is wanted are put
  pub table_put : is_wanted wanted dataset.base ≡ true → (result : Result (Unit {0}) FileError)
      → PutsRead dataset.base (table_rows dataset.columns bytes) (table_fault dataset.columns bytes) old new result
      → PutsFile Table dataset wanted bytes old new result
  table_put told (Ok done) (clear, puts, next) = of_table (rows_put wanted dataset.base (table_rows dataset.columns bytes) old new told next puts) clear
  table_put told (Err (content.Fault found)) fault = fault
  table_put told (Err content.OutOfMemory) want = tt

  pub keys_put : is_wanted wanted dataset.base ≡ true → (result : Result (Unit {0}) FileError)
      → PutsRead dataset.base (key_rows bytes) (key_fault 3 bytes) old new result → PutsFile Keys dataset wanted bytes old new result
  keys_put told (Ok done) (clear, puts, next) = of_keys (rows_put wanted dataset.base (key_rows bytes) old new told next puts) clear
  keys_put told (Err (content.Fault found)) fault = fault
  keys_put told (Err content.OutOfMemory) want = tt

  pub documents_put : (relations : Kept) → IsKeptFor wanted dataset.base relations → (result : Result (Unit {0}) FileError)
      → PutsTrees relations (file_trees dataset.layout bytes) (trees_fault dataset.layout bytes) old new result
      → PutsFile Documents dataset wanted bytes old new result
  documents_put relations are (Ok done) (clear, puts) =
      let trees = file_trees dataset.layout bytes in
      let encoded : Encoded = record {
        facts = kept_of relations old.next (documents trees);
        next = old.next + size (documents trees);
      } in
      let given = documents_give dataset wanted bytes old.next relations are (Ok encoded)
      (clear, record { facts = refl; next = refl; rising = puts.rising }) in
      (given.0, (encoded, given.1, (puts.puts, puts.next)))
  documents_put relations are (Err (content.Fault found)) given = given
  documents_put relations are (Err content.OutOfMemory) given = tt

  -- the first fault of a file of this model is found
  pub finds_fault : (model : DataModel) (result : Result (Unit {0}) FileError) → PutsFile model dataset wanted bytes old new result
      → FindsFault (fault_by_model model dataset bytes) result
  finds_fault model (Ok done) puts = puts.0
  finds_fault model (Err (content.Fault found)) fault = fault
  finds_fault model (Err content.OutOfMemory) want = tt

module _ (dataset : Dataset) (wanted : Wanted) (bytes : List ℕ) (coded : CodedData) (told : is_wanted wanted dataset.base ≡ false) where
  -- and where it is not wanted, none
  pub table_left : table_fault dataset.columns bytes ≡ None → PutsFile Table dataset wanted bytes coded coded (Ok tt)
  table_left clear = of_table dataset wanted bytes coded coded (rows_left wanted dataset.base (table_rows dataset.columns bytes) coded told) clear

  pub keys_left : key_fault 3 bytes ≡ None → PutsFile Keys dataset wanted bytes coded coded (Ok tt)
  keys_left clear = of_keys dataset wanted bytes coded coded (rows_left wanted dataset.base (key_rows bytes) coded told) clear

-- ---- what is loaded

-- nothing
pub none_loaded : (datasets : List Dataset) (wanted : Wanted) (coded : CodedData) → StandFor coded.facts [] → StandInOrder coded.facts [] → coded.next ≡ 0
    → IsCodedFrom datasets wanted [] coded
none_loaded datasets wanted coded stand ordered next = (
  record { facts = []; next = 0; sound = ∣ (λ term (fact, inside, at). absurd (Contains-nil fact inside)) ∣₁ },
  record { stand = stand; ordered = ([], ordered, keep_itself []); next = next },
  ([], (refl, refl), leaves_none wanted [] refl, λ file dataset inside there. absurd (Contains-nil file inside)),
)

-- what is put stands in order after what was there
ordered_more : (facts own : List (Fact Term)) (old new : CodedData) → Puts own old new → StandKept old.facts facts → StandKept new.facts (facts ++ own)
ordered_more facts own old new puts (all, stand, kept) = (
  all ++ puts.more,
  puts.ordered all stand,
  keep_both (decided_fact decided_term) all facts puts.more own kept puts.kept,
)

-- a file more
pub file_loaded : (datasets : List Dataset) (wanted : Wanted) (files : List DatasetBytes) (number : ℕ) (bytes : List ℕ) (dataset : Dataset)
    (old new : CodedData) → OrderedStand → slice_get datasets number ≡ Some dataset
    → (encoded : Encoded) × AreWantedOf dataset.model dataset wanted bytes old.next encoded × PutsEncoded encoded old new
    → IsCodedFrom datasets wanted files old → IsCodedFrom datasets wanted (files ++ record { dataset = number; bytes = bytes } ∷ []) new
file_loaded datasets wanted files number bytes dataset old new law there (encoded, are, (puts, next)) (loaded, coded, from) =
    let (all, stand, kept) = ordered_more loaded.facts encoded.facts old new puts coded.ordered in (
      record {
        facts = loaded.facts ++ encoded.facts;
        next = encoded.next;
        sound = ∣ append_flat loaded.facts encoded.facts (flat_kept loaded.facts loaded.sound) are.flat ∣₁;
      },
      record {
        stand = stand_same new.facts all (loaded.facts ++ encoded.facts) kept.same (law new.facts all stand);
        ordered = (all, stand, kept);
        next = next;
      },
      load_more datasets wanted files number bytes dataset loaded encoded (loaded.facts ++ encoded.facts) from there
          (subst (λ n. AreWantedOf dataset.model dataset wanted bytes n encoded) coded.next are) refl,
    )

-- what a file that is put does to the relations, and to what is loaded
module _ (datasets : List Dataset) (wanted : Wanted) (number : ℕ) (bytes : List ℕ) (dataset : Dataset) (old new : CodedData)
    (result : Result (Unit {0}) FileError) where
  pub over_stays : (schema : List Relation) → PutsFile dataset.model dataset wanted bytes old new result → IsOver schema old → OnOk result (IsOver schema new)
  over_stays schema puts over = by result puts
    where
      by : (it : Result (Unit {0}) FileError) → PutsFile dataset.model dataset wanted bytes old new it → OnOk it (IsOver schema new)
      by (Ok done) (clear, (encoded, are, (its, next))) = its.arities ∙ over
      by (Err error) puts = tt

  pub file_more : OrderedStand → slice_get datasets number ≡ Some dataset → PutsFile dataset.model dataset wanted bytes old new result
      → OnOk result ((files : List DatasetBytes) → IsCodedFrom datasets wanted files old
      → IsCodedFrom datasets wanted (files ++ record { dataset = number; bytes = bytes } ∷ []) new)
  file_more law there puts = by result puts
    where
      by : (it : Result (Unit {0}) FileError) → PutsFile dataset.model dataset wanted bytes old new it
          → OnOk it ((files : List DatasetBytes) → IsCodedFrom datasets wanted files old
          → IsCodedFrom datasets wanted (files ++ record { dataset = number; bytes = bytes } ∷ []) new)
      by (Ok done) (clear, put) = λ files from. file_loaded datasets wanted files number bytes dataset old new law there put from
      by (Err error) puts = tt
