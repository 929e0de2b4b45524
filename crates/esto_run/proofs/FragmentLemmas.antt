-- The files of the fragments that a set uses, opened one after the other.
use Rattle.std.proofs.Common.{◌≡◌, ◌≢◌, ◌↔◌, ◌<◌, ◌≤◌, ◌+◌, ◌==◌, ℕ, true, false, List, [], ◌∷◌, ◌++◌, take, drop, length, get_or, Contains, slice_get, Option}
use Rattle.std.proofs.Common.{Some, None, Result, Ok, Err, refl, sym, ap, subst, ◌∙◌, arith}
use Rattle.std.proofs.lemmas.Bool.Decides.{nat_tests}
use Rattle.std.specs.Prelude.{IfSome}
use Rattle.std.specs.List.{AllPairs}
use Rattle.std.specs.Result.{IsErrAnd}
use Rattle.std.proofs.lemmas.List.{get_or_default, take-append-drop, take_all}
use Rattle.std.proofs.lemmas.List.Elements.{Contains-append_left, Contains-get_or}
use Rattle.std.proofs.lemmas.Option.{same_Some}
use Rattle.esto_mapping.specs.declared.catalogue.Catalogue.{Catalogue}
use Rattle.esto_docmodel.specs.declared.file.Store.{Store}
use Rattle.esto_course.specs.Course.{Stops, judges, gives}
use Rattle.esto_course.specs.Course.Stops.{refused}
use Rattle.esto_course.proofs.Steps.{first_stops, then_goes, gives_goes}
use Rattle.esto_ports.specs.FileFaults.{Gives}
use Rattle.esto_ports.specs.Files.{Files}
use Rattle.esto_ports.specs.declared.file_fault.FileError.{FileError}
use Rattle.esto_ports.specs.declared.file_fault.FileError.TheVariants.{Fault}
use Rattle.esto_ports.specs.declared.file_fault.FileFault.{FileFault}
use Rattle.esto_steps.specs.Rows.{IsRowOf, held_by}
use Rattle.esto_run.specs.Opened.{Held, AreOpened, AreRowsFor, rows_held}
use Rattle.esto_docs.specs.Stores.{IsRowIn, first_fault_in}
use Rattle.esto_stores.specs.Rows.{Row}
use Rattle.esto_term.proofs.DistinctLemmas.{outside}
use Rattle.esto_term.proofs.ListLemmas.{thing_at}
use Rattle.esto_term.proofs.PlaceLemmas.{drop-item, take-item}
use Rattle.esto_views.specs.declared.fragments.FragmentDef.{FragmentDef}
use Rattle.esto_status.specs.Answers.{IsWant, IsCaused}
use Rattle.esto_status.specs.Fetch.{fetches}
use Rattle.esto_run.specs.Fragments.{Stored, IsStoredAt, content_fault, reads_content, opens_stored, opens_fragment, no_contents, with_content, opens_next}
use Rattle.esto_run.specs.Fragments.{opens_fragments, Takes, Reads, OpensNext, OpensAll}
use Rattle.esto_status.specs.declared.limits.TheConstants.{DATA_LIMIT}
use Rattle.esto_status.specs.declared.status.Status.{Status}
use Rattle.esto_status.specs.declared.status.Status.TheVariants.{BadFragment}
use Rattle.esto_course.specs.Course.{Names}
use Rattle.esto_course.specs.Course.Point.{underway}
use Rattle.esto_course.proofs.Asking.{first_way_asks, quiet_judges}
use Rattle.esto_status.specs.Asked.{AsksIn}
use Rattle.esto_status.proofs.AskedSteps.{exit_asks}
use Rattle.esto_status.proofs.FileSteps.{opened_asks, opened_goes, unfetched_asks, unfetched_stops, unread_asks, unread_stops}
use Rattle.esto_status.proofs.LoopSteps.{IsAlong, along_end_asks, along_ends, along_goes, along_starts, along_stop_asks, along_stops, each_way, kept_asks}

-- ---- the content of one file

module _ (catalogue : Catalogue) (number : ℕ) (bytes : List ℕ) (result : Result (Unit {0}) FileError) where
  abbrev pub GivesAt : Type 0
  GivesAt = IfSome (slice_get catalogue.fragments number) (λ fragment. IfSome (slice_get catalogue.stores number) (λ store.
      Gives tt (first_fault_in store.shape (length fragment.view.head) bytes) result))

  -- what is said of the fragment and the store at the number is said of them
  pub gives_stored : (stored : Stored) → IsStoredAt catalogue number stored → GivesAt → Gives tt (content_fault stored bytes) result
  gives_stored stored at gives =
      subst (λ (it : Option Store). IfSome it (λ store. Gives tt (first_fault_in store.shape (length stored.definition.view.head) bytes) result)) at.store
      (subst (λ it. IfSome it (λ fragment. IfSome (slice_get catalogue.stores number) (λ store.
      Gives tt (first_fault_in store.shape (length fragment.view.head) bytes) result))) at.definition gives)

-- the error that was given is the first fault
pub fault_given : (stored : Stored) (bytes same : List ℕ) (error : FileError) (fault : FileFault) → same ≡ bytes → error ≡ Fault fault
    → Gives {A = Unit {0}} tt (content_fault stored same) (Err error) → content_fault stored bytes ≡ Some fault
fault_given stored bytes same error fault is error_is gives =
    subst (λ (it : List ℕ). content_fault stored it ≡ Some fault) is
    (subst (λ (it : FileError). Gives {A = Unit {0}} tt (content_fault stored same) (Err it)) error_is gives)

pub content_goes : (stored : Stored) (bytes : List ℕ) → content_fault stored bytes ≡ None → (reads_content stored bytes).goes tt
unfolding judges
content_goes stored bytes none = none

pub content_stops : (stored : Stored) (bytes name : List ℕ) (fault : FileFault) → content_fault stored bytes ≡ Some fault → name ≡ stored.definition.name
    → Stops IsWant (IsCaused ⊥) (reads_content stored bytes) (BadFragment name fault)
unfolding judges
content_stops stored bytes name fault found is = refused (record { cause = tt }) (fault, found, ap (λ it. BadFragment it fault) is)

-- the name of the fragment at the number
pub same_name : (catalogue : Catalogue) (number : ℕ) (stored : Stored) → IsStoredAt catalogue number stored → (own : FragmentDef)
    → slice_get catalogue.fragments number ≡ Some own → own.name ≡ stored.definition.name
same_name catalogue number stored at own is = ap (λ (it : FragmentDef). it.name) (same_Some own stored.definition (sym is ∙ at.definition))

-- there is a fragment at the number, with the store
pub stored_at : (catalogue : Catalogue) (number : ℕ) (store : Store) → number < length catalogue.fragments → slice_get catalogue.stores number ≡ Some store
    → (definition : FragmentDef) × IsStoredAt catalogue number (record { definition = definition; store = store })
stored_at catalogue number store below is =
    let found = thing_at catalogue.fragments number below in (found.0, record { definition = found.1; store = is })

-- ---- one file

module _ (files : Option Files) (catalogue : Catalogue) (number : ℕ) (stored : Stored) (at : IsStoredAt catalogue number stored) where
  -- an error that `?` hands on
  pub next_exit : {rose : Type 0} {before after : Option Names} (old new : List (List Row)) (error : Status) (result : Result (Unit {0}) Status)
      → IsErrAnd result (λ handed. handed ≡ error) → Stops IsWant (IsCaused rose) (fetches files stored.store.file DATA_LIMIT) error
      → AsksIn before after (fetches files stored.store.file DATA_LIMIT) (Err error)
      → OpensNext files catalogue number old new rose before after result
  next_exit old new error (Ok _) handed stops asks = absurd handed
  next_exit old new error (Err handed_on) handed stops asks = rw handed (
    unfetched_stops (IsStoredAt catalogue number) (λ it. it.store.file) DATA_LIMIT reads_content files stored at stops,
    unfetched_asks (IsStoredAt catalogue number) (λ it. it.store.file) DATA_LIMIT reads_content files stored at asks,
  )

  module _ (bytes : List ℕ) (fetched : (fetches files stored.store.file DATA_LIMIT).goes bytes) (before after : Option Names)
      (asked : AsksIn before after (fetches files stored.store.file DATA_LIMIT) (Ok bytes)) where
    -- it is fetched and its content read
    pub opens_next_by : (old new : List (List Row)) (rose : Type 0) (result : Result (Unit {0}) Status) → Reads catalogue number stored bytes old new result
        → OpensNext files catalogue number old new rose before after result
    opens_next_by old new rose (Ok _) (good, taken) = (
      bytes,
      opened_goes (IsStoredAt catalogue number) (λ it. it.store.file) DATA_LIMIT reads_content files stored at bytes fetched good,
      taken,
      opened_asks (IsStoredAt catalogue number) (λ it. it.store.file) DATA_LIMIT reads_content files stored at bytes (quiet_judges _ _) asked good,
    )
    opens_next_by old new rose (Err refusal) stops = (
      unread_stops (IsStoredAt catalogue number) (λ it. it.store.file) DATA_LIMIT reads_content files stored at bytes fetched stops,
      unread_asks (IsStoredAt catalogue number) (λ it. it.store.file) DATA_LIMIT reads_content files stored at bytes (quiet_judges _ _) asked stops,
    )

-- ---- all files

-- a further content leaves what was opened before
still_opened : (stores : List Store) (contents : ℕ → List ℕ) (numbers : List ℕ) (opened : List (List Row)) (number : ℕ) (bytes : List ℕ)
    → ¬ (Contains numbers number) → AreOpened stores contents numbers opened → AreOpened stores (with_content contents number bytes) numbers opened
still_opened stores contents numbers opened number bytes absent are fact inside =
    let same : with_content contents number bytes fact.relation ≡ contents fact.relation = elsewhere fact.relation
    (λ is. absent (subst (Contains numbers) is inside)) in
    subst (λ (it : List ℕ). IsRowOf (held_by opened) fact
    ↔ ((store : Store) × (slice_get stores fact.relation ≡ Some store) × IsRowIn store.shape it fact.terms))
    (sym same) (are fact inside)
  where
    elsewhere : (other : ℕ) → other ≢ number → with_content contents number bytes other ≡ contents other
    elsewhere other apart = let test : (other == number) ≡ false = grind (arith, nat_tests) in rw test refl

pub content_there : (contents : ℕ → List ℕ) (number : ℕ) (bytes : List ℕ) → with_content contents number bytes number ≡ bytes
content_there contents number bytes = let test : (number == number) ≡ true = grind (arith, nat_tests) in rw test refl

-- before the file of a fragment is asked for
pub next_way : (files : Option Files) (catalogue : Catalogue) (counter : ℕ) (contents : ℕ → List ℕ) (number : ℕ)
    → (opens_next files catalogue counter contents number).asks [] underway
next_way files catalogue counter contents number =
    first_way_asks (opens_fragment files catalogue number) (λ bytes. gives (with_content contents number bytes)) []
    (first_way_asks (judges (IsStoredAt catalogue number) (λ _. ⊥)) (opens_stored files) [] (quiet_judges _ _).underway)

pub fragments_way : (files : Option Files) (catalogue : Catalogue) (numbers : List ℕ) → (opens_fragments files catalogue numbers).asks [] underway
fragments_way files catalogue numbers = each_way (opens_next files catalogue) numbers 0 no_contents (next_way files catalogue)

-- after the files of the first numbers, so many: the contents of these, with which the course goes on, their rows, and the names that came to those that were
-- asked for
pub record SoFar (files : Option Files) (catalogue : Catalogue) (numbers : List ℕ) (before : Option Names) (index : ℕ) (opened : List (List Row))
    (now : Option Names) : Type 0 where
  pub contents : ℕ → List ℕ
  pub along : IsAlong (opens_next files catalogue) numbers (opens_fragments files catalogue numbers) before index contents now
  pub are : AreOpened catalogue.stores contents (take index numbers) opened

module _ (files : Option Files) (catalogue : Catalogue) (numbers : List ℕ) (before : Option Names) where
  pub opening_starts : (opened : List (List Row)) → AreOpened catalogue.stores no_contents [] opened
      → SoFar files catalogue numbers before 0 opened before
  opening_starts opened are =
      record { contents = no_contents; along = along_starts (opens_next files catalogue) numbers no_contents before; are = are }

  module _ (index : ℕ) (opened : List (List Row)) (now : Option Names) (so_far : SoFar files catalogue numbers before index opened now) where
    module _ (number : ℕ) (below : index < length numbers) (is : number ≡ get_or numbers index number) where
      -- one file more
      pub opening_goes : (next : List (List Row)) (bytes : List ℕ) → AllPairs ◌≢◌ numbers → (opens_fragment files catalogue number).goes bytes
          → Takes catalogue number bytes opened next → (later : Option Names) → AsksIn now later (opens_fragment files catalogue number) (Ok bytes)
          → SoFar files catalogue numbers before (index + 1) next later
      opening_goes next bytes distinct goes takes later asked = record {
        contents = with_content so_far.contents number bytes;
        along = along_goes (opens_next files catalogue) numbers (opens_fragments files catalogue numbers) before index so_far.contents now so_far.along
            number below is (with_content so_far.contents number bytes) later
            (then_goes (opens_fragment files catalogue number) (λ it. gives (with_content so_far.contents number it)) bytes
            (with_content so_far.contents number bytes) goes (gives_goes Status _ _ refl))
            (kept_asks (opens_fragment files catalogue number) (with_content so_far.contents number) bytes asked);
        are = subst (λ (it : List ℕ). AreOpened catalogue.stores (with_content so_far.contents number bytes) it next) (sym taken)
            (takes (with_content so_far.contents number bytes) (take index numbers) (content_there so_far.contents number bytes)
            (still_opened catalogue.stores so_far.contents (take index numbers) opened number bytes absent so_far.are));
      }
        where
          taken : take (index + 1) numbers ≡ take index numbers ++ number ∷ []
          taken = take-item numbers index number below is

          left : drop index numbers ≡ number ∷ drop (index + 1) numbers
          left = drop-item numbers index number below is

          absent : ¬ (Contains (take index numbers) number)
          absent inside = outside (take index numbers) (drop (index + 1) numbers) number
              (subst (AllPairs ◌≢◌) (sym (take-append-drop index numbers) ∙ ap (λ (it : List ℕ). take index numbers ++ it) left) distinct)
              (Contains-append_left (take index numbers) (drop (index + 1) numbers) number inside)

      -- the file is not opened
      pub opening_stop_asks : (later : Option Names) (refusal : Status) → AsksIn now later (opens_fragment files catalogue number) (Err refusal)
          → AsksIn before later (opens_fragments files catalogue numbers) (Err refusal)
      opening_stop_asks later refusal asked = along_stop_asks (opens_next files catalogue) numbers (opens_fragments files catalogue numbers) before index
          so_far.contents now so_far.along number below is later refusal
          (exit_asks (opens_fragment files catalogue number) (λ it. gives (with_content so_far.contents number it)) asked)

      pub opening_stops : {rose : Type 0} {refusal : Status} → Stops IsWant (IsCaused rose) (opens_fragment files catalogue number) refusal
          → Stops IsWant (IsCaused rose) (opens_fragments files catalogue numbers) refusal
      opening_stops stops = along_stops (opens_next files catalogue) numbers (opens_fragments files catalogue numbers) before index so_far.contents now
          so_far.along number below is (first_stops _ _ stops)

  -- no file is left
  pub opening_ends : (index : ℕ) (opened : List Held) (now : Option Names) → SoFar files catalogue numbers before index (rows_held opened) now
      → length numbers ≤ index → AreRowsFor catalogue.fragments opened → (rose : Type 0)
      → OpensAll files catalogue numbers rose before now (Ok opened)
  opening_ends index opened now so_far le rows rose = (
    so_far.contents,
    along_ends (opens_next files catalogue) numbers (opens_fragments files catalogue numbers) before index so_far.contents now so_far.along le,
    subst (λ (it : List ℕ). AreOpened catalogue.stores so_far.contents it (rows_held opened)) (take_all index numbers le) so_far.are,
    rows,
    along_end_asks (opens_next files catalogue) numbers (opens_fragments files catalogue numbers) before index so_far.contents now so_far.along le,
  )

-- the number at a place of the list, as it is read off a slice of it
pub number_inside : (numbers items : List ℕ) (index : ℕ) → items ≡ numbers → index < length items → Contains numbers (get_or items index 0)
number_inside numbers items index is below = subst (λ (it : List ℕ). Contains it (get_or items index 0)) is (Contains-get_or items index 0 below)

pub number_read : (numbers items : List ℕ) (index : ℕ) → items ≡ numbers → index < length items
    → get_or items index 0 ≡ get_or numbers index (get_or items index 0)
number_read numbers items index is below =
    get_or_default items index 0 (get_or items index 0) below ∙ ap (λ (it : List ℕ). get_or it index (get_or items index 0)) is

-- the error of one file that `?` hands on
pub opening_exit : {rose : Type 0} (files : Option Files) (catalogue : Catalogue) (numbers : List ℕ) (error : Status) (result : Result (List Held) Status)
    → IsErrAnd result (λ handed. handed ≡ error) → Stops IsWant (IsCaused rose) (opens_fragments files catalogue numbers) error
    → {before after : Option Names} → AsksIn before after (opens_fragments files catalogue numbers) (Err error)
    → OpensAll files catalogue numbers rose before after result
opening_exit files catalogue numbers error (Ok _) handed stops asks = absurd handed
opening_exit files catalogue numbers error (Err handed_on) handed stops asks = rw handed (stops, asks)
