-- A fetch of the shelf in memory: what it answers, and what becomes of the shelf's state.
use Rattle.std.proofs.Common.{◌≡◌, ◌≤◌, ◌==◌, ◌++◌, ◌∷◌, [], ℕ, List, Bool, false, Some, Result, Ok, Err, inl, inr, subst, sym, ap, ◌∙◌, arith}
use Rattle.std.proofs.lemmas.List.{append-nil}
use Rattle.std.specs.FinMap as map
use Rattle.std.specs.List.{list_any}
use Rattle.std.specs.Result.{IsErrAnd}
use Rattle.esto_ports.specs.Asked.{Asks}
use Rattle.esto_ports.specs.Faults.{Rose, next_count}
use Rattle.esto_ports.specs.Fetch.{Fetches}
use Rattle.esto_ports.specs.Files.{Files}
use Rattle.esto_ports.specs.MemoryShelf.{ShelfState, HasFile, fails_at, is_failing, is_refused, after_call, AfterFetch, AnswersFetch, GivesWithin}
use Rattle.esto_ports.specs.declared.ports.ShelfError.{ShelfError}
use Rattle.esto_ports.specs.declared.ports.ShelfError.TheVariants.{Failed, TooLong, OutOfMemory}

module _ (s : ShelfState) (name file : List ℕ) (limit : ℕ) where
  -- the file is given where it is within the limit
  pub within_answers : (result : Result (List ℕ) ShelfError) → GivesWithin file limit result → is_failing s name ≡ false → is_refused s ≡ false
      → map.get s.files name ≡ Some file
      → AnswersFetch s name limit result
  within_answers (Ok bytes) gives calm listed has = (calm, listed, (rw gives.0 has), (rw gives.0 gives.1))
  within_answers (Err Failed) gives calm listed has = absurd gives
  within_answers (Err (TooLong read)) gives calm listed has = (calm, listed, gives.0, (file, has, gives.1))
  within_answers (Err OutOfMemory) gives calm listed has = tt

  -- and that is an answer of a shelf that tells these files
  pub within_fetches : (result : Result (List ℕ) ShelfError) (before now : ℕ) → GivesWithin file limit result → map.get s.files name ≡ Some file
      → Fetches (Some s.files) name limit before now result
  within_fetches (Ok bytes) before now gives has = ((rw gives.0 has), (rw gives.0 gives.1))
  within_fetches (Err Failed) before now gives has = absurd gives
  within_fetches (Err (TooLong read)) before now gives has = (gives.0, (file, has, gives.1))
  within_fetches (Err OutOfMemory) before now gives has = tt

  -- the call is counted, and the name kept
  pub within_after : (result : Result (List ℕ) ShelfError) (new : ShelfState) → GivesWithin file limit result → is_failing s name ≡ false
      → new ≡ after_call s name
      → AfterFetch s name result new
  within_after (Ok bytes) new gives calm is = is
  within_after (Err Failed) new gives calm is = absurd gives
  within_after (Err (TooLong read)) new gives calm is = is
  within_after (Err OutOfMemory) new gives calm is = inl (calm, is)

-- the file that was looked up is given where it is within the limit
pub looked_answers : (s : ShelfState) (name : List ℕ) (limit : ℕ) (file : List ℕ) (result : Result (List ℕ) ShelfError) {call : ℕ} {files : Files}
    {fails refuses : List ℕ} {word : List ℕ}
    → call ≡ next_count s.calls → files ≡ s.files → fails ≡ s.fails → word ≡ name → refuses ≡ s.refuses
    → HasFile files fails call word file → list_any (λ n. n == call) refuses ≡ false → GivesWithin file limit result
    → AnswersFetch s name limit result
looked_answers s name limit file result calls held failing named listing has listed gives =
    let found = rw (held, failing, calls, named) at has in
    let unlisted = rw (listing, calls) at listed in
    within_answers s name file limit result gives found.0 unlisted found.1

-- and that is an answer of a shelf that tells its files
pub looked_fetches : (s : ShelfState) (name : List ℕ) (limit : ℕ) (file : List ℕ) (result : Result (List ℕ) ShelfError) (before now : ℕ) {files : Files}
    {word : List ℕ} → files ≡ s.files → word ≡ name → map.get files word ≡ Some file → GivesWithin file limit result
    → Fetches (Some s.files) name limit before now result
looked_fetches s name limit file result before now held named has gives =
    let found = rw (held, named) at has in
    within_fetches s name file limit result before now gives found

-- the name came to those that were asked for, whatever the answer
pub asks_any : (old new : List (List ℕ)) (name : List ℕ) (result : Result (List ℕ) ShelfError) → Some new ≡ Some (old ++ name ∷ [])
    → Asks (Some old) (Some new) name result
asks_any old new name (Ok bytes) is = is
asks_any old new name (Err Failed) is = is
asks_any old new name (Err (TooLong read)) is = is
asks_any old new name (Err OutOfMemory) is = inl is

-- it didn't come where memory was wanting before
pub asks_none : (old new : List (List ℕ)) (name : List ℕ) (result : Result (List ℕ) ShelfError) → IsErrAnd result (λ error. error ≡ OutOfMemory) → new ≡ old
    → Asks (Some old) (Some new) name result
asks_none old new name (Ok bytes) wanting same = absurd wanting
asks_none old new name (Err error) wanting same =
    subst (λ it. Asks (Some old) (Some new) name (Err it)) (sym wanting) (inr (ap Some (same ∙ sym (append-nil old))))

-- a call of the shelf that is seen as s, which counted the call and kept the name
module _ (s t : ShelfState) (name word : List ℕ) (calls : ℕ) (asked : List (List ℕ)) (same : t ≡ s) (counts : calls ≡ next_count t.calls)
    (asks : asked ≡ t.asked ++ word ∷ []) (named : word ≡ name) where
  asks_name : asked ≡ t.asked ++ name ∷ []
  asks_name = asks ∙ ap (λ n. t.asked ++ n ∷ []) named

  -- the name came to those that were asked for
  pub tells_name : Some asked ≡ Some (s.asked ++ name ∷ [])
  tells_name = ap Some (asks_name ∙ ap (λ u. u.asked ++ name ∷ []) same)

  -- the state after a call
  pub counted : record t { calls = calls; asked = asked } ≡ after_call s name
  counted = subst (λ u. record t { calls = calls; asked = asked } ≡ after_call u name) same (λ i. record t { calls = counts i; asked = asks_name i })

  -- the state after a call that failed
  pub counted_fault : (faults : ℕ) → faults ≡ next_count t.faults
      → record t { calls = calls; asked = asked; faults = faults } ≡ record (after_call s name) { faults = next_count s.faults }
  counted_fault faults rises =
      subst (λ u. record t { calls = calls; asked = asked; faults = faults } ≡ record (after_call u name) { faults = next_count u.faults })
      same (λ i. record t { calls = counts i; asked = asks_name i; faults = rises i })

  -- whether the call fails, as its parts say
  pub fails_seen : {failing : Bool} {files : Files} {fails : List ℕ} {key : List ℕ} → files ≡ t.files → fails ≡ t.fails → key ≡ name
      → fails_at files fails calls key ≡ failing → is_failing s name ≡ failing
  fails_seen held failing keyed is = let now = rw (held, failing, counts, keyed, same) at is in now

-- a count that stays is not less than before
pub stays : {before now : ℕ} → now ≡ before → before ≤ now
stays same = omega arith

-- the next of a count rose
pub rose : {before now : ℕ} → now ≡ next_count before → Rose before now
rose is = grind arith
