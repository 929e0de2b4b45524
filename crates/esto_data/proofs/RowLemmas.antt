-- The rows of the files of all fragments, opened one after the other.
use Rattle.std.proofs.Common.{◌≡◌, ◌≢◌, ◌↔◌, ◌<◌, ◌≤◌, ◌+◌, ◌==◌, ℕ, zero, suc, false, List, [], ◌∷◌, ◌++◌, length, length-append, get_or, slice_get, Contains}
use Rattle.std.proofs.Common.{None, Option, Some, Result, Ok, Err, refl, sym, ap, subst, ◌∙◌, arith, inl, inr}
use Rattle.std.specs.Prelude.{OnOk}
use Rattle.std.specs.Result.{IsErrAnd}
use Rattle.std.proofs.lemmas.Bool.Decides.{nat_tests}
use Rattle.std.proofs.lemmas.List.FromFn.{length-range_with_len, get_or-range_with_len}
use Rattle.std.proofs.lemmas.Option.{same_Some, slice_get_within}
use Rattle.esto_mapping.specs.declared.catalogue.Catalogue.{Catalogue}
use Rattle.esto_docmodel.specs.declared.file.Store.{Store}
use Rattle.esto_columns.specs.CodedRows.{CodedRows}
use Rattle.esto_course.specs.Course.{Names, Stops, judges, gives}
use Rattle.esto_course.proofs.Asking.{quiet_judges}
use Rattle.esto_course.proofs.Steps.{first_stops, then_goes, gives_goes}
use Rattle.esto_data.specs.Coding.{AreCodedLists, CodesFile}
use Rattle.esto_steps.specs.Rows.{IsRowOf, held_by}
use Rattle.esto_ports.specs.Files.{Files}
use Rattle.esto_ports.specs.declared.file_fault.FileError.{FileError}
use Rattle.esto_ports.specs.declared.file_fault.FileError.TheVariants.{Fault}
use Rattle.esto_ports.specs.declared.file_fault.FileFault.{FileFault}
use Rattle.esto_docs.specs.Stores.{IsFileRow, IsRowIn}
use Rattle.esto_semantics.specs.declared.fact.Fact.{Fact}
use Rattle.esto_stores.specs.Rows.{Row}
use Rattle.esto_term.proofs.ListLemmas.{Contains-nil, at_pushed, thing_at}
use Rattle.esto_status.specs.Answers.{Answers, IsWant, IsCaused}
use Rattle.esto_status.specs.Asked.{AsksIn}
use Rattle.esto_status.specs.Fetch.{fetches}
use Rattle.esto_run.specs.Fragments.{Stored, IsStoredAt, content_fault, reads_content, opens_fragment, no_contents, with_content, opens_next, opens_fragments}
use Rattle.esto_status.specs.declared.limits.TheConstants.{DATA_LIMIT}
use Rattle.esto_status.specs.declared.status.Status.{Status}
use Rattle.esto_status.specs.declared.status.Status.TheVariants.{BadFragment}
use Rattle.esto_status.proofs.AskedSteps.{exit_asks}
use Rattle.esto_status.proofs.FileSteps.{opened_asks, opened_goes, unfetched_asks, unfetched_stops, unread_asks, unread_stops}
use Rattle.esto_run.proofs.FragmentLemmas.{content_stops, content_there}
use Rattle.esto_status.proofs.LoopSteps.{IsAlong, along_end_asks, along_ends, along_goes, along_starts, along_stop_asks, along_stops, kept_asks}
use Rattle.esto_data.specs.Audit.{AddsRows, OpensNextRows, OpensRows, all_fragments}

-- ---- the content of one file

-- it has no fault, and its rows came to the lists
pub rows_added : (stored : Stored) (bytes same : List ℕ) → same ≡ bytes → (texts more : List (List ℕ)) (old new : List CodedRows)
    → CodesFile (IsRowIn stored.store.shape same) (content_fault stored same) texts more old new (Ok tt)
    → Answers (reads_content stored bytes) ⊥ (Ok tt) × AddsRows stored.store.shape bytes texts more old new
unfolding judges
rows_added stored bytes same is texts more old new added =
    subst (λ (it : List ℕ). (content_fault stored it ≡ None) × AddsRows stored.store.shape it texts more old new) is added

-- or this is the first fault
pub rows_refused : (stored : Stored) (bytes same : List ℕ) → same ≡ bytes → (texts more : List (List ℕ)) (old new : List CodedRows) (error : FileError)
    (fault : FileFault) → error ≡ Fault fault → CodesFile (IsRowIn stored.store.shape same) (content_fault stored same) texts more old new (Err error)
    → (name : List ℕ) → name ≡ stored.definition.name → Answers (reads_content stored bytes) ⊥ (Err (BadFragment name fault))
rows_refused stored bytes same is texts more old new error fault error_is added name name_is =
    let found : content_fault stored same ≡ Some fault =
    subst (λ (it : FileError). CodesFile (IsRowIn stored.store.shape same) (content_fault stored same) texts more old new (Err it)) error_is added in
    content_stops stored bytes name fault (subst (λ (it : List ℕ). content_fault stored it ≡ Some fault) is found) name_is

-- ---- one file

module _ (files : Option Files) (catalogue : Catalogue) (number : ℕ) (stored : Stored) (at : IsStoredAt catalogue number stored) where
  -- an error that `?` hands on
  pub rows_exit : {rose : Type 0} {before after : Option Names} (texts more : List (List ℕ)) (old new : List CodedRows) (error : Status)
      (result : Result (Unit {0}) Status) → IsErrAnd result (λ handed. handed ≡ error)
      → Stops IsWant (IsCaused rose) (fetches files stored.store.file DATA_LIMIT) error
      → AsksIn before after (fetches files stored.store.file DATA_LIMIT) (Err error)
      → OpensNextRows files catalogue number texts more old new rose before after result
  rows_exit texts more old new error (Ok _) handed stops asks = absurd handed
  rows_exit texts more old new error (Err handed_on) handed stops asks = rw handed (
    unfetched_stops (IsStoredAt catalogue number) (λ it. it.store.file) DATA_LIMIT reads_content files stored at stops,
    unfetched_asks (IsStoredAt catalogue number) (λ it. it.store.file) DATA_LIMIT reads_content files stored at asks,
  )

  module _ (bytes : List ℕ) (fetched : (fetches files stored.store.file DATA_LIMIT).goes bytes) (before after : Option Names)
      (asked : AsksIn before after (fetches files stored.store.file DATA_LIMIT) (Ok bytes)) (texts more : List (List ℕ)) (old new : List CodedRows) where
    -- it is fetched and its content read
    pub rows_by : (rose : Type 0) (result : Result (Unit {0}) Status) → Answers (reads_content stored bytes) ⊥ result
        → OnOk result (AddsRows stored.store.shape bytes texts more old new)
        → OpensNextRows files catalogue number texts more old new rose before after result
    rows_by rose (Ok _) good adds = (
      bytes,
      stored.store,
      opened_goes (IsStoredAt catalogue number) (λ it. it.store.file) DATA_LIMIT reads_content files stored at bytes fetched good,
      at.store,
      adds,
      opened_asks (IsStoredAt catalogue number) (λ it. it.store.file) DATA_LIMIT reads_content files stored at bytes (quiet_judges _ _) asked good,
    )
    rows_by rose (Err refusal) stops adds = (
      unread_stops (IsStoredAt catalogue number) (λ it. it.store.file) DATA_LIMIT reads_content files stored at bytes fetched stops,
      unread_asks (IsStoredAt catalogue number) (λ it. it.store.file) DATA_LIMIT reads_content files stored at bytes (quiet_judges _ _) asked stops,
    )

-- ---- all files

-- of the first fragments, so many: the contents of their files, with which the course goes on, their rows, and the names that came to those that were asked for
pub record SoFarRows (files : Option Files) (catalogue : Catalogue) (before : Option Names) (index : ℕ) (texts : List (List ℕ)) (lists : List CodedRows)
    (now : Option Names) : Type 0 where
  pub contents : ℕ → List ℕ
  pub along : IsAlong (opens_next files catalogue) (all_fragments catalogue) (opens_fragments files catalogue (all_fragments catalogue)) before index contents
      now
  pub rows : List (List Row)
  pub coded : AreCodedLists texts lists rows
  pub long : length rows ≡ index
  pub are : (number : ℕ) (own : List Row) (store : Store) → slice_get rows number ≡ Some own → slice_get catalogue.stores number ≡ Some store
      → (row : Row) → Contains own row ↔ IsRowIn store.shape (contents number) row

pub elsewhere_than : (contents : ℕ → List ℕ) (number other : ℕ) (bytes : List ℕ) → other ≢ number → with_content contents number bytes other ≡ contents other
elsewhere_than contents number other bytes apart = let test : (other == number) ≡ false = grind (arith, nat_tests) in rw test refl

-- a row that is held stands in the list at its number, and the other way round
pub row_from : (rows : List (List Row)) (number : ℕ) (row : Row) → Contains (held_by rows number) row
    → (own : List Row) × (slice_get rows number ≡ Some own) × Contains own row
row_from [] number row inside = absurd (Contains-nil row inside)
row_from (own ∷ rows) zero row inside = (own, refl, inside)
row_from (own ∷ rows) (suc number) row inside = row_from rows number row inside

pub held_there : (rows : List (List Row)) (number : ℕ) (own : List Row) → slice_get rows number ≡ Some own → (row : Row) → Contains own row
    → Contains (held_by rows number) row
held_there [] number own at row inside = absurd (cc)
held_there (first ∷ rows) zero own at row inside = let is : first ≡ own = cc in subst (λ (it : List Row). Contains it row) (sym is) inside
held_there (first ∷ rows) (suc number) own at row inside = held_there rows number own at row inside

module _ (files : Option Files) (catalogue : Catalogue) (before : Option Names) where
  pub rows_start : (texts : List (List ℕ)) (lists : List CodedRows) → lists ≡ [] → SoFarRows files catalogue before 0 texts lists before
  rows_start texts lists none = subst (λ (it : List CodedRows). SoFarRows files catalogue before 0 texts it before) (sym none) (record {
    contents = no_contents;
    along = along_starts (opens_next files catalogue) (all_fragments catalogue) no_contents before;
    rows = [];
    coded = tt;
    long = refl;
    are = λ number own store at. absurd (cc);
  })

  numbered : (index : ℕ) → index < length catalogue.fragments → index < length (all_fragments catalogue)
  numbered index below = rw (length-range_with_len 0 (length catalogue.fragments)) below

  counted : (index : ℕ) → index < length catalogue.fragments → index ≡ get_or (all_fragments catalogue) index index
  counted index below = let is = get_or-range_with_len 0 (length catalogue.fragments) index index below in omega (arith, is)

  module _ (index : ℕ) (texts : List (List ℕ)) (lists : List CodedRows) (now : Option Names)
      (so_far : SoFarRows files catalogue before index texts lists now) (below : index < length catalogue.fragments) where
    -- the file of one more is opened
    along_one : (bytes : List ℕ) → (opens_fragment files catalogue index).goes bytes → (later : Option Names)
        → AsksIn now later (opens_fragment files catalogue index) (Ok bytes)
        → IsAlong (opens_next files catalogue) (all_fragments catalogue) (opens_fragments files catalogue (all_fragments catalogue)) before (index + 1)
        (with_content so_far.contents index bytes) later
    along_one bytes opens later asked =
        along_goes (opens_next files catalogue) (all_fragments catalogue) (opens_fragments files catalogue (all_fragments catalogue)) before index
        so_far.contents now so_far.along index (numbered index below) (counted index below) (with_content so_far.contents index bytes) later
        (then_goes (opens_fragment files catalogue index) (λ it. gives (with_content so_far.contents index it)) bytes
        (with_content so_far.contents index bytes) opens (gives_goes Status _ _ refl))
        (kept_asks (opens_fragment files catalogue index) (with_content so_far.contents index) bytes asked)

    -- one file more
    pub rows_go : (more : List (List ℕ)) (next : List CodedRows) (bytes : List ℕ) (store : Store) → (opens_fragment files catalogue index).goes bytes
        → slice_get catalogue.stores index ≡ Some store → AddsRows store.shape bytes texts more lists next
        → (later : Option Names) → AsksIn now later (opens_fragment files catalogue index) (Ok bytes)
        → SoFarRows files catalogue before (index + 1) more next later
    rows_go more next bytes store opens stored_in (own, are, adds) later asked =
        record {
          contents = with_content so_far.contents index bytes;
          along = along_one bytes opens later asked;
          rows = so_far.rows ++ own ∷ [];
          coded = adds so_far.rows so_far.coded;
          long = length-append so_far.rows (own ∷ []) ∙ ap (λ (it : ℕ). it + 1) so_far.long;
          are = added;
        }
      where
        added : (number : ℕ) (its : List Row) (other : Store) → slice_get (so_far.rows ++ own ∷ []) number ≡ Some its
            → slice_get catalogue.stores number ≡ Some other
            → (row : Row) → Contains its row ↔ IsRowIn other.shape (with_content so_far.contents index bytes number) row
        added number its other at there row = elim (at_pushed so_far.rows own number its at) [
          | inl earlier ↦
              let less : number < index = omega (arith, slice_get_within so_far.rows number its earlier, so_far.long) in
              subst (λ (it : List ℕ). Contains its row ↔ IsRowIn other.shape it row)
              (sym (elsewhere_than so_far.contents index number bytes (λ same. omega (arith, less, same))))
              (so_far.are number its other earlier there row)
          | inr last ↦
              let is : number ≡ index = last.0 ∙ so_far.long in
              let stores : store ≡ other = same_Some store other (sym stored_in ∙ ap (slice_get catalogue.stores) (sym is) ∙ there) in
              subst (λ (it : ℕ). Contains its row ↔ IsRowIn other.shape (with_content so_far.contents index bytes it) row) (sym is)
              (subst (λ (it : List ℕ). Contains its row ↔ IsRowIn other.shape it row) (sym (content_there so_far.contents index bytes))
              (subst (λ (it : Store). Contains its row ↔ IsRowIn it.shape bytes row) stores
              (subst (λ (it : List Row). Contains it row ↔ IsRowIn store.shape bytes row) last.1 (are row))))
        ]

    -- the file is not opened
    pub rows_stop : {rose : Type 0} {refusal : Status} → Stops IsWant (IsCaused rose) (opens_fragment files catalogue index) refusal
        → Stops IsWant (IsCaused rose) (opens_fragments files catalogue (all_fragments catalogue)) refusal
    rows_stop stops = along_stops (opens_next files catalogue) (all_fragments catalogue) (opens_fragments files catalogue (all_fragments catalogue)) before
        index so_far.contents now so_far.along index (numbered index below) (counted index below) (first_stops _ _ stops)

    pub rows_stop_asks : (later : Option Names) (refusal : Status) → AsksIn now later (opens_fragment files catalogue index) (Err refusal)
        → AsksIn before later (opens_fragments files catalogue (all_fragments catalogue)) (Err refusal)
    rows_stop_asks later refusal asked = along_stop_asks (opens_next files catalogue) (all_fragments catalogue)
        (opens_fragments files catalogue (all_fragments catalogue)) before index so_far.contents now so_far.along index (numbered index below)
        (counted index below) later refusal
        (exit_asks (opens_fragment files catalogue index) (λ it. gives (with_content so_far.contents index it)) asked)

  -- no file is left
  pub rows_end : (number : ℕ) (texts : List (List ℕ)) (lists : List CodedRows) (now : Option Names)
      → SoFarRows files catalogue before number texts lists now → number ≡ length catalogue.fragments
      → length catalogue.stores ≡ length catalogue.fragments → (rose : Type 0) → OpensRows files catalogue texts rose before now (Ok lists)
  rows_end number texts lists now so_far is many rose = (
    so_far.contents,
    along_ends (opens_next files catalogue) (all_fragments catalogue) (opens_fragments files catalogue (all_fragments catalogue)) before
        number so_far.contents now so_far.along all_done,
    record {
      rows = so_far.rows;
      coded = so_far.coded;
      are = record { many = so_far.long ∙ is; are = λ fact. (told fact, held fact) };
    },
    along_end_asks (opens_next files catalogue) (all_fragments catalogue) (opens_fragments files catalogue (all_fragments catalogue)) before
        number so_far.contents now so_far.along all_done,
  )
    where
      all_done : length (all_fragments catalogue) ≤ number
      all_done = omega (arith, is, length-range_with_len 0 (length catalogue.fragments))

      told : (fact : Fact (List ℕ)) → IsRowOf (held_by so_far.rows) fact → IsFileRow catalogue.stores so_far.contents fact
      told fact inside =
          let own = row_from so_far.rows fact.relation fact.terms inside in
          let within : fact.relation < length catalogue.stores =
          omega (arith, slice_get_within so_far.rows fact.relation own.0 own.1, so_far.long, is, many) in
          let store = thing_at catalogue.stores fact.relation within in
          (store.0, store.1, (so_far.are fact.relation own.0 store.0 own.1 store.1 fact.terms).0 own.2)

      held : (fact : Fact (List ℕ)) → IsFileRow catalogue.stores so_far.contents fact → IsRowOf (held_by so_far.rows) fact
      held fact (store, there, own_is) =
          let within : fact.relation < length so_far.rows =
          omega (arith, slice_get_within catalogue.stores fact.relation store there, so_far.long, is, many) in
          let own = thing_at so_far.rows fact.relation within in
          let inside = (so_far.are fact.relation own.0 store own.1 there fact.terms).1 own_is in
          held_there so_far.rows fact.relation own.0 own.1 fact.terms inside

-- the error of one file that `?` hands on
pub all_rows_exit : {rose : Type 0} {before after : Option Names} (files : Option Files) (catalogue : Catalogue) (texts : List (List ℕ)) (error : Status)
    (result : Result (List CodedRows) Status) → IsErrAnd result (λ handed. handed ≡ error)
    → Stops IsWant (IsCaused rose) (opens_fragments files catalogue (all_fragments catalogue)) error
    → AsksIn before after (opens_fragments files catalogue (all_fragments catalogue)) (Err error)
    → OpensRows files catalogue texts rose before after result
all_rows_exit files catalogue texts error (Ok _) handed stops asks = absurd handed
all_rows_exit files catalogue texts error (Err handed_on) handed stops asks = rw handed (stops, asks)
