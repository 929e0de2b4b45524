-- The numbers of atoms that a word names.
use Rattle.std.proofs.Common.{◌≡◌, ◌==◌, ◌≤◌, ◌<◌, ◌+◌, ℕ, List, [], ◌∷◌, ◌++◌, drop, get_or, length, map, Option, Some, None, Result, Ok, Err, refl, sym, ap}
use Rattle.std.proofs.Common.{subst, ◌∙◌, arith}
use Rattle.std.proofs.lemmas.List.{append-nil, append_assoc, drop_all, drop_more}
use Rattle.std.specs.List.{slice_split}
use Rattle.esto_top.specs.Verify.{verify_course}
use Rattle.esto_course.specs.Course.{Names, Stops, judges}
use Rattle.esto_course.specs.Course.Stops.{refused}
use Rattle.esto_course.proofs.Asking.{quiet_judges}
use Rattle.esto_status.proofs.AskedSteps.{exit_asks, later_asks, quiet_asks}
use Rattle.esto_status.specs.Answers.{Answers, IsCaused, IsWant}
use Rattle.esto_status.specs.Asked.{AsksIn}
use Rattle.esto_status.specs.declared.reply.Reply.{Reply}
use Rattle.esto_status.specs.declared.status.Status.{Status}
use Rattle.esto_status.specs.declared.status.Status.TheVariants.{Usage}
use Rattle.esto_ports.specs.Faults.{Rose}
use Rattle.esto_ports.specs.Files.{Files}
use Rattle.esto_top.specs.Grammar.{atom_numbers, before_all, names_atoms, number_above, numbers_above, verifies_named, with_rest}
use Rattle.esto_status.proofs.Steps.{then_answers}

-- the numbers before the others, if these are there
abbrev pub after : List ℕ → Option (List ℕ) → Option (List ℕ)
after done None = None
after done (Some rest) = Some (done ++ rest)

pub after_nothing : (done : List ℕ) (rest : Option (List ℕ)) → done ≡ [] → after done rest ≡ rest
after_nothing done None none = refl
after_nothing done (Some rest) none = ap (λ (it : List ℕ). Some (it ++ rest)) none

-- one more number is done
pub after_one : (done : List ℕ) (number : ℕ) (rest : Option (List ℕ)) → after (done ++ number ∷ []) rest ≡ after done (before_all number rest)
after_one done number None = refl
after_one done number (Some rest) = ap Some (append_assoc done (number ∷ []) rest)

module _ {X : Type 0} (now : X → List ℕ) (words : List X) (index : ℕ) (other : X) (below : index < length words) (done : List ℕ) (before : ℕ)
    (whole : Option (List ℕ)) (so_far : after done (numbers_above before (map now (drop index words))) ≡ whole) where
  abbrev pub own : List ℕ
  own = now (get_or words index other)

  abbrev pub left : List (List ℕ)
  left = map now (drop (index + 1) words)

  at_word : after done (with_rest (number_above before own) (λ next. numbers_above next left)) ≡ whole
  at_word = subst (λ (it : List X). after done (numbers_above before (map now it)) ≡ whole) (drop_more words index other below) so_far

  -- the word writes a number that is above
  pub one_more : (number : ℕ) → number_above before own ≡ Some number → (next : List ℕ) → next ≡ done ++ number ∷ [] → after next (numbers_above number left)
      ≡ whole
  one_more number is next grown =
      ap (λ (it : List ℕ). after it (numbers_above number left)) grown ∙ after_one done number (numbers_above number left)
      ∙ sym (ap (λ (it : Option ℕ). after done (with_rest it (λ next. numbers_above next left))) is) ∙ at_word

  -- it does not
  pub none_more : number_above before own ≡ None → None ≡ whole
  none_more is = sym (ap (λ (it : Option ℕ). after done (with_rest it (λ next. numbers_above next left))) is) ∙ at_word

-- no word is left
pub all_done : {X : Type 0} (now : X → List ℕ) (words : List X) (index : ℕ) → length words ≤ index → (done : List ℕ) (before : ℕ) (whole : Option (List ℕ))
    → after done (numbers_above before (map now (drop index words))) ≡ whole → Some done ≡ whole
all_done now words index past done before whole so_far =
    ap Some (sym (append-nil done)) ∙ subst (λ (it : List _). after done (numbers_above before (map now it)) ≡ whole) (drop_all index words past) so_far

-- ---- the step

-- what the words between its commas write is what the word names
found_is : (bytes word : List ℕ) (parts : List (List ℕ)) (found : Option (List ℕ)) → bytes ≡ word → parts ≡ slice_split (λ byte. byte == 44) bytes
    → found ≡ numbers_above 0 parts → found ≡ atom_numbers word
found_is bytes word parts found bytes_are parts_are is = is ∙ ap (numbers_above 0) parts_are ∙ ap atom_numbers bytes_are

module _ (bytes word : List ℕ) (parts : List (List ℕ)) (found : Option (List ℕ)) (bytes_are : bytes ≡ word)
    (parts_are : parts ≡ slice_split (λ byte. byte == 44) bytes) (is : found ≡ numbers_above 0 parts) where
  pub atoms_go : (numbers : List ℕ) → found ≡ Some numbers → (names_atoms word).goes numbers
  unfolding judges
  atoms_go numbers some = sym (found_is bytes word parts found bytes_are parts_are is) ∙ some

  pub atoms_stop : found ≡ None → Stops IsWant (IsCaused ⊥) (names_atoms word) Usage
  unfolding judges
  atoms_stop none = refused (record { cause = tt }) (sym (found_is bytes word parts found bytes_are parts_are is) ∙ none, refl)

-- memory is wanting for the numbers, or the word is outside the grammar
pub unnamed_asks : (files : Option Files) (catalogue query atoms file : List ℕ) (told : Option Names) (refusal : Status)
    → Stops IsWant (IsCaused ⊥) (names_atoms atoms) refusal → AsksIn told told (verifies_named files catalogue query atoms file) (Err refusal)
unnamed_asks files catalogue query atoms file told refusal stops =
    exit_asks _ _ (quiet_asks (names_atoms atoms) told (Err refusal) (quiet_judges _ _) stops)

-- the answer once the word has named its numbers
pub named_answers : (files : Option Files) (catalogue query atoms file numbers used : List ℕ) → (names_atoms atoms).goes numbers → used ≡ numbers
    → (before now : ℕ) → before ≤ now → (result : Result Reply Status) → Answers (verify_course files catalogue query used file) (Rose before now) result
    → Answers (verifies_named files catalogue query atoms file) (Rose before now) result
named_answers files catalogue query atoms file numbers used named same before now later result answer =
    then_answers _ _ before before now numbers result named (omega arith) later
    (subst (λ (it : List ℕ). Answers (verify_course files catalogue query it file) (Rose before now) result) same answer)

-- and what is asked for then
pub named_asks : (files : Option Files) (catalogue query atoms file numbers used : List ℕ) → (names_atoms atoms).goes numbers → used ≡ numbers
    → {old new : Option Names} (result : Result Reply Status) → AsksIn old new (verify_course files catalogue query used file) result
    → AsksIn old new (verifies_named files catalogue query atoms file) result
named_asks files catalogue query atoms file numbers used named same {old = old} {new = new} result asked =
    later_asks _ _ (quiet_asks (names_atoms atoms) old (Ok numbers) (quiet_judges _ _) named)
    (subst (λ (it : List ℕ). AsksIn old new (verify_course files catalogue query it file) result) same asked)
