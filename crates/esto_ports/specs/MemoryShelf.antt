-- A shelf in memory.
use Rattle.std.specs.Prelude.{◌≡◌, ◌⊎◌, ℕ, ◌+◌, ◌<◌, ◌≤◌, Bool, true, false, ◌||◌, ◌==◌, is_none, List, [], ◌∷◌, ◌++◌, length, Some, Result, Ok, Err, refl}
use Rattle.std.specs.Ordering.{nat_cmp}
use Rattle.std.specs.Cmp.Lexicographic.{slice_cmp}
use Rattle.std.specs.List.{list_any}
use Rattle.std.specs.Coded.{Coded, code_by, coded×, coded_ℕ, coded_list}
use Rattle.std.specs.FinMap as map
use Rattle.esto_ports.specs.Files.{Files}
use Rattle.esto_ports.specs.Faults.{next_count}
use Rattle.esto_ports.specs.declared.ports.ShelfError.{ShelfError}
use Rattle.esto_ports.specs.declared.ports.ShelfError.TheVariants.{Failed, TooLong, OutOfMemory}

-- Its files, the calls that are to fail and those that are to be refused, how many calls and faults there were, and the names that were asked for.
pub record ShelfState : Type 0 where
  pub files : Files
  pub fails : List ℕ
  pub refuses : List ℕ
  pub calls : ℕ
  pub faults : ℕ
  pub asked : List (List ℕ)

-- The state as a value of a model.
abbrev pub shelf_code : Coded ShelfState
shelf_code =
    code_by (Files × (List ℕ × (List ℕ × (ℕ × (ℕ × List (List ℕ)))))) (coded× (map.code {R = slice_cmp nat_cmp} (coded_list coded_ℕ) (coded_list coded_ℕ))
    (coded× (coded_list coded_ℕ) (coded× (coded_list coded_ℕ) (coded× coded_ℕ (coded× coded_ℕ (coded_list (coded_list coded_ℕ)))))))
    (λ s. (s.files, (s.fails, (s.refuses, (s.calls, (s.faults, s.asked))))))
    (λ p. record { files = p.0; fails = p.1.0; refuses = p.1.1.0; calls = p.1.1.1.0; faults = p.1.1.1.1.0; asked = p.1.1.1.1.1 }) (λ _. refl)

-- A call of that number fails: it is listed, or there is no such file.
abbrev pub fails_at : Files → List ℕ → ℕ → List ℕ → Bool
fails_at files fails call name = list_any (λ c. c == call) fails || is_none (map.get files name)

-- The call doesn't fail, and the file of that name has these bytes.
abbrev pub HasFile : Files → List ℕ → ℕ → List ℕ → List ℕ → Type 0
HasFile files fails call name bytes = (fails_at files fails call name ≡ false) × (map.get files name ≡ Some bytes)

-- The next call fails.
abbrev pub is_failing : ShelfState → List ℕ → Bool
is_failing s name = fails_at s.files s.fails (next_count s.calls) name

-- The next call is listed to be refused.
abbrev pub is_refused : ShelfState → Bool
is_refused s = list_any (λ c. c == next_count s.calls) s.refuses

-- The state after a fetch of that name, which was one more call.
abbrev pub after_call : ShelfState → List ℕ → ShelfState
after_call s name = record s { calls = next_count s.calls; asked = s.asked ++ name ∷ [] }

-- Each fetch is one more call, and its name comes to those that were asked for. Failed is one more fault. Where memory is wanting the name may not come, and
-- if it does, the call is not one that fails.
abbrev pub AfterFetch : ShelfState → List ℕ → Result (List ℕ) ShelfError → ShelfState → Type 0
AfterFetch s name (Ok _) new = new ≡ after_call s name
AfterFetch s name (Err Failed) new = new ≡ record (after_call s name) { faults = next_count s.faults }
AfterFetch s name (Err (TooLong _)) new = new ≡ after_call s name
AfterFetch s name (Err OutOfMemory) new = ((is_failing s name ≡ false) × (new ≡ after_call s name)) ⊎ (new ≡ record s { calls = next_count s.calls })

-- Where the call fails Failed comes, also where it is listed to be refused. Else the answer is the file, or that it is too long, and the call is not
-- listed to be refused. Memory may always be wanting.
abbrev pub AnswersFetch : ShelfState → List ℕ → ℕ → Result (List ℕ) ShelfError → Type 0
AnswersFetch s name limit (Ok bytes) =
    (is_failing s name ≡ false) × (is_refused s ≡ false) × (map.get s.files name ≡ Some bytes) × (length bytes ≤ limit)
AnswersFetch s name limit (Err Failed) = is_failing s name ≡ true
AnswersFetch s name limit (Err (TooLong read)) = (is_failing s name ≡ false) × (is_refused s ≡ false) × (read ≡ limit + 1)
    × ((bytes : List ℕ) × (map.get s.files name ≡ Some bytes) × (limit < length bytes))
AnswersFetch s name limit (Err OutOfMemory) = Unit {0}

-- A file's bytes are given where they are within the limit.
abbrev pub GivesWithin : List ℕ → ℕ → Result (List ℕ) ShelfError → Type 0
GivesWithin file limit (Ok bytes) = (bytes ≡ file) × (length file ≤ limit)
GivesWithin file limit (Err Failed) = ⊥
GivesWithin file limit (Err (TooLong read)) = (read ≡ limit + 1) × (limit < length file)
GivesWithin file limit (Err OutOfMemory) = Unit {0}
